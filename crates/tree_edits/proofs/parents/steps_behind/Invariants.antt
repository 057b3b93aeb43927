use Rattle.std.proofs.Common.{◌≡◌, drop}
use Rattle.tree_edits.specs.{Prelude.{tree_of, texts}, Parents.steps_behind}
use Rattle.tree_edits.proofs.parents.steps_behind.Given as goal

abbrev pub invariant-loop-passed : goal.invariant-loop-passed
invariant-loop-passed l =
    steps_behind (tree_of l.value) (texts (drop l.passed l.steps)) ≡ steps_behind (tree_of l.tree) (texts l.steps)
