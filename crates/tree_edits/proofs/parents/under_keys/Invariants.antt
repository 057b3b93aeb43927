use Rattle.std.proofs.Common.{◌≡◌, ◌≤◌, drop, length}
use Rattle.tree_edits.specs.{Prelude.{tree_of, texts}, Parents.under_keys}
use Rattle.tree_edits.proofs.parents.under_keys.Given as goal

abbrev pub invariant-loop-left : goal.invariant-loop-left
invariant-loop-left l = record {
  within : l.left ≤ length l.keys;
  built : tree_of l.tree ≡ under_keys (texts (drop l.left l.keys)) (tree_of l.fn.value);
}

abbrev pub decreases-loop-left : goal.decreases-loop-left
decreases-loop-left l = l.left
