use Rattle.std.proofs.Common.{◌≡◌, take, string_bytes}
use Rattle.tree_diff.{proofs.Prelude.{chars, pointer_text}, specs.Walks.path_of_levels}
use Rattle.tree_diff.proofs.pointer.pointer_to.Given as goal

abbrev pub invariant-loop-level : goal.invariant-loop-level
invariant-loop-level l = chars (string_bytes l.pointer) ≡ pointer_text (path_of_levels (take l.level-index l.levels))
