use Rattle.std.proofs.Common.{subst, sym}
use Rattle.tree_edits.proofs.{Prelude.{IsKept, tree_of}, Points.kept-part}
use Rattle.tree_edits.proofs.moving.copy_at.Goals as goal

pub try_copy-requires : goal.try_copy-requires
try_copy-requires c =
    (kept-part (tree_of c.tree.result.now) c.in-Ok.path c.in-Ok-at.value.now c.in-Ok-at.ensures.ok
    (rw c.tree.ensures.same c.tree.ensures.kept)).deep

pub of_element-size-requires-clause-deep : goal.of_element-size-requires-clause-deep
of_element-size-requires-clause-deep c =
    rw c.in_ok-copy.ensures
    (kept-part (tree_of c.tree.result.now) c.in-Ok.path c.in-Ok-at.value.now c.in-Ok-at.ensures.ok
    (rw c.tree.ensures.same c.tree.ensures.kept)).deep

pub of_element-size-requires-clause-long : goal.of_element-size-requires-clause-long
of_element-size-requires-clause-long c =
    rw c.in_ok-copy.ensures
    (kept-part (tree_of c.tree.result.now) c.in-Ok.path c.in-Ok-at.value.now c.in-Ok-at.ensures.ok
    (rw c.tree.ensures.same c.tree.ensures.kept)).long

pub with_size-requires-clause-kept : goal.with_size-requires-clause-kept
with_size-requires-clause-kept c =
    subst IsKept (sym c.in_ok-copy.ensures)
    (kept-part (tree_of c.tree.result.now) c.in-Ok.path c.in-Ok-at.value.now c.in-Ok-at.ensures.ok
    (rw c.tree.ensures.same c.tree.ensures.kept))
