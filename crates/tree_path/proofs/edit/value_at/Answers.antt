use Rattle.std.proofs.Common.{Err, sym, ap, ◌∙◌}
use Rattle.tree_path.{proofs.{Prelude.{chars, tree_of}, Descents.{at_from-turn, at_from-missed}}, specs.Paths.child}
use Rattle.tree_path.proofs.edit.value_at.Goals as goal

pub returns-in-Err-clause-refused : goal.returns-in-Err-clause-refused
returns-in-Err-clause-refused c =
    at_from-missed c.args.tokens.now c.loop-passed.passed c.index-tokens-passed.result (tree_of c.args.tree.now)
    (tree_of c.loop-passed.value.now) c.in-Err.miss
    c.loop-passed-test.true c.index-tokens-passed.is c.loop-passed.invariant
    (ap (λ bytes. child (tree_of c.loop-passed.value.now) (chars bytes)) (sym c.as_str.ensures.value) ∙ c.in-Err.ensures.missed)
    ∙ ap Err (sym c.at_step.ensures)

pub loop-passed-preserved : goal.loop-passed-preserved
loop-passed-preserved c =
    at_from-turn c.args.tokens.now c.loop-passed.passed c.index-tokens-passed.result (tree_of c.args.tree.now)
    (tree_of c.loop-passed.value.now) (tree_of c.in-Ok.child.now)
    c.loop-passed-test.true c.index-tokens-passed.is c.loop-passed.invariant
    (ap (λ bytes. child (tree_of c.loop-passed.value.now) (chars bytes)) (sym c.as_str.ensures.value) ∙ c.in-Ok.ensures.ok)
