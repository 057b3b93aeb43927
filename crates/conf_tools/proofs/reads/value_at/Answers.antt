-- A value in a configuration is no deeper than what is written.
use Rattle.std.proofs.Common.{subst, sym}
use Rattle.conf_tools.proofs.{Prelude.{IsKept, tree_of}, ReadLemmas.value-shallow}
use Rattle.yaml_data.specs.declared.tree.Tree as code
use Rattle.conf_tools.proofs.reads.value_at.Goals as goal

pub returns-in-Ok-at-clause-shallow : goal.returns-in-Ok-at-clause-shallow
returns-in-Ok-at-clause-shallow c =
    let kept = subst (λ (t : code.Tree). IsKept (tree_of t)) (sym c.tree.ensures.same) c.tree.ensures.kept in
    value-shallow (tree_of c.tree.result.now) (tree_of c.in-Ok-at.value.now) c.in-Ok-parse.path kept c.in-Ok-at.ensures.ok
