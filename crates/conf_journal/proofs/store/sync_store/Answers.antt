use Rattle.std.proofs.Common.{[]}
use Rattle.conf_journal.proofs.{Prelude.Store, Reading.sync-reads_same, Runs.{run-call, run-grown}}
use Rattle.conf_journal.proofs.store.sync_store.Goals as goal

pub returns-clause-any_moment : goal.returns-clause-any_moment
returns-clause-any_moment g c h = run-grown g.D.Disk tt (run-call g.D.Disk g.met.D.Disk.only_now h [] c.sync.ensures.goes)

pub returns-clause-reads : goal.returns-clause-reads
returns-clause-reads g c h =
    let d = g.D.Disk in
    sync-reads_same Store (d.model.folder c.args.disk.now) (d.model.folder c.sync.new.self) c.sync.result (c.sync.ensures.goes.change h)
