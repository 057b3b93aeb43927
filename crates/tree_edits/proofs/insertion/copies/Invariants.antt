use Rattle.std.proofs.Common.{◌≡◌, take}
use Rattle.tree_edits.specs.Prelude.{elements_of}
use Rattle.tree_edits.proofs.insertion.copies.Given as goal

abbrev pub invariant-loop-tree : goal.invariant-loop-tree
invariant-loop-tree l = elements_of l.copies.items ≡ elements_of (take l.tree-index l.trees)
