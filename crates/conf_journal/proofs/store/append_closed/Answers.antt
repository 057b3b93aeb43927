use Rattle.std.proofs.Common.{[], ◌∷◌}
use Rattle.conf_journal.proofs.{Prelude.{Append, Sync, Store, LeavesOnly-weaker}, Appends.leaves-with_pending, Runs.LeftDuring}
use Rattle.conf_journal.proofs.Runs.{left_synced, run-known, run-then}
use Rattle.conf_journal.proofs.store.append_closed.Goals as goal

pub returns-clause-leaves : goal.returns-clause-leaves
returns-clause-leaves g c h =
    let d = g.D.Disk in
    let folder = d.model.folder c.args.disk.now in
    let step = Append Store c.args.bytes.now in
    leaves-with_pending d.model c.args.bytes.now _ _ (g.met.D.Disk.whole c.args.disk.now h)
    (LeavesOnly-weaker d.model _ _ _ (LeftDuring (step ∷ []) folder) (run-then d {first = step ∷ []} (c.in_ok-append_store.ensures.folder h)
    (record { leaves = (c.append_store.ensures.leaves h).any_moment })
    (run-known d (Sync Store ∷ []) [] tt (c.sync_store.ensures.any_moment h))).leaves (left_synced step Store folder))
