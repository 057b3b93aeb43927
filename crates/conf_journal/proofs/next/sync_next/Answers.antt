use Rattle.std.proofs.Common.{[], ◌∷◌}
use Rattle.conf_journal.proofs.{Prelude.{Sync, Next}, Reading.sync-reads_same, Runs.{run-call, run-grown}, Stores.performed-synced}
use Rattle.conf_journal.proofs.Stores.{staging-run}
use Rattle.conf_journal.proofs.next.sync_next.Goals as goal

pub returns-clause-any_moment : goal.returns-clause-any_moment
returns-clause-any_moment g c h = run-grown g.D.Disk tt (run-call g.D.Disk g.met.D.Disk.only_now h [] c.sync.ensures.goes)

pub returns-clause-reads : goal.returns-clause-reads
returns-clause-reads g c h =
    sync-reads_same Next (g.D.Disk.model.folder c.args.disk.now) (g.D.Disk.model.folder c.sync.new.self) c.sync.result
    (c.sync.ensures.goes.change h)

pub returns-clause-synced : goal.returns-clause-synced
returns-clause-synced g c h some =
    let old = c.args.disk.now in
    performed-synced Next (g.D.Disk.model.folder old) (g.D.Disk.model.folder c.sync.new.self) c.sync.result
    (g.met.D.Disk.whole old h) some (c.sync.ensures.goes.change h)

pub returns-clause-store : goal.returns-clause-store
returns-clause-store g c h =
    staging-run g.D.Disk (Sync Next ∷ []) tt tt (g.met.D.Disk.whole c.args.disk.now h) (returns-clause-any_moment g c h)
