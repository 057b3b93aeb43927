use Rattle.std.proofs.Common.{◌≤◌, length, take}
use Rattle.tree_path.{proofs.Prelude.{Tree, tree_of, texts}, specs.Steps.{Lowered, Rebuilt}}
use Rattle.tree_path.proofs.edit.ascend.Given as goal

abbrev pub invariant-loop-left : goal.invariant-loop-left
invariant-loop-left l =
    (l.left ≤ length l.tokens)
    × ((t a u : Tree) → Lowered (texts l.tokens) t a u (tree_of l.fn.above)
    → (c : Tree) × Lowered (texts (take l.left l.tokens)) t a c (tree_of l.above)
    × ((r : Tree) → Rebuilt (texts (take l.left l.tokens)) t (tree_of l.tree) r → Rebuilt (texts l.tokens) t (tree_of l.fn.tree) r))

abbrev pub decreases-loop-left : goal.decreases-loop-left
decreases-loop-left l = l.left
