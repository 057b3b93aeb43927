use Rattle.std.proofs.Common.{◌≡◌, true, Ok, take}
use Rattle.tree_path.{proofs.Prelude.{distinct, tree_of, texts}, specs.Paths.at}
use Rattle.tree_path.proofs.edit.value_by.Given as goal

abbrev pub invariant-loop-passed : goal.invariant-loop-passed
invariant-loop-passed l =
    (at (tree_of l.tree) (texts (take l.passed l.tokens)) ≡ Ok (tree_of l.value)) × (distinct (tree_of l.value) ≡ true)
