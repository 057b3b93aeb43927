use Rattle.std.proofs.Common.{arith}
use Rattle.conf_state.proofs.{Prelude.tree_of, StepLemmas.{checked_tree-deep, checked_tree-large, checked_tree-within}}
use Rattle.conf_state.proofs.editing.check_limits.Goals as goal

pub returns-then-depth-clause-refused : goal.returns-then-depth-clause-refused
returns-then-depth-clause-refused c = checked_tree-deep (tree_of c.args.config.now) (omega arith)

pub returns-then-style_length-clause-refused : goal.returns-then-style_length-clause-refused
returns-then-style_length-clause-refused c = checked_tree-large (tree_of c.args.config.now) (omega arith) (omega arith)

pub returns-clause-ok : goal.returns-clause-ok
returns-clause-ok c = checked_tree-within (tree_of c.args.config.now) (omega arith) (omega arith)

pub returns-clause-within : goal.returns-clause-within
returns-clause-within c =
    let kept = c.depth.ensures.kept in
    record { texts = kept.texts; keys = kept.keys; deep = omega arith; long = omega arith }
