use Rattle.std.proofs.Common.{[], ◌∷◌}
use Rattle.conf_journal.proofs.{Prelude.{SyncFolder, LeavesOnly-weaker}, Runs.{run-call, run-then, run-grown}, Stores.after_rename-leaves}
use Rattle.conf_journal.proofs.next.swap_next.Goals as goal

pub returns-in_err-rename_next-clause-any_moment : goal.returns-in_err-rename_next-clause-any_moment
returns-in_err-rename_next-clause-any_moment g c h =
    run-grown g.D.Disk tt (run-call g.D.Disk g.met.D.Disk.only_now h (SyncFolder ∷ []) c.rename_next.ensures.goes)

pub returns-clause-any_moment : goal.returns-clause-any_moment
returns-clause-any_moment g c h =
    let d = g.D.Disk in
    let only = g.met.D.Disk.only_now in
    run-grown d tt (run-then d (c.in_ok-rename_next.ensures.goes.change h)
    (run-call d only h [] c.rename_next.ensures.goes) (run-call d only h [] c.sync_folder.ensures.goes))

pub returns-in_err-rename_next-clause-store : goal.returns-in_err-rename_next-clause-store
returns-in_err-rename_next-clause-store g c h =
    LeavesOnly-weaker _ _ _ _ _ (returns-in_err-rename_next-clause-any_moment g c h)
    (after_rename-leaves (g.D.Disk.model.folder c.args.disk.now) (g.met.D.Disk.whole c.args.disk.now h) (c.requires h))

pub returns-clause-store : goal.returns-clause-store
returns-clause-store g c h =
    LeavesOnly-weaker _ _ _ _ _ (returns-clause-any_moment g c h)
    (after_rename-leaves (g.D.Disk.model.folder c.args.disk.now) (g.met.D.Disk.whole c.args.disk.now h) (c.requires h))
