use Rattle.std.proofs.Common.{◌≡◌, ℕ, List, length, take}
use Rattle.tree_path.{proofs.Prelude.tree_of, specs.Steps.{Leads, Lowered}}
use Rattle.tree_path.proofs.undo.lower.Given as goal

abbrev pub invariant-loop-passed : goal.invariant-loop-passed
invariant-loop-passed l =
    (steps : List (List ℕ)) → length steps ≡ length l.places → Leads steps (tree_of l.fn.tree) l.places
    → Lowered (take l.passed steps) (tree_of l.fn.tree) (tree_of l.fn.above) (tree_of l.tree) (tree_of l.above)
