use Rattle.std.proofs.Common.{◌≡◌, ◌≤◌, ℕ, List, length, take}
use Rattle.tree_path.{proofs.Prelude.{Tree, tree_of}, specs.Steps.{Leads, Lowered, Rebuilt}}
use Rattle.tree_path.proofs.undo.raise.Given as goal

abbrev pub invariant-loop-left : goal.invariant-loop-left
invariant-loop-left l =
    (l.left ≤ length l.places)
    × ((steps : List (List ℕ)) (t a u : Tree) → length steps ≡ length l.places → Leads steps t l.places
    → Lowered steps t a u (tree_of l.fn.above)
    → (c : Tree) × Lowered (take l.left steps) t a c (tree_of l.above)
    × ((r : Tree) → Rebuilt (take l.left steps) t (tree_of l.tree) r → Rebuilt steps t (tree_of l.fn.tree) r))

abbrev pub decreases-loop-left : goal.decreases-loop-left
decreases-loop-left l = l.left
