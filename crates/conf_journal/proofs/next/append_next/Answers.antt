use Rattle.std.proofs.Common.{[], ◌∷◌}
use Rattle.conf_journal.proofs.{Prelude.{Append, Next}, Runs.{run-call, run-grown}, Stores.staging-run, Reading.append_next-leaves_store}
use Rattle.conf_journal.proofs.Reading.{appended_next-reads, performed-reads}
use Rattle.conf_journal.proofs.next.append_next.Goals as goal

pub returns-clause-any_moment : goal.returns-clause-any_moment
returns-clause-any_moment g c h = run-grown g.D.Disk tt (run-call g.D.Disk g.met.D.Disk.only_now h [] c.append.ensures.goes)

pub returns-clause-store : goal.returns-clause-store
returns-clause-store g c h =
    staging-run g.D.Disk (Append Next c.args.bytes.now ∷ []) tt tt (g.met.D.Disk.whole c.args.disk.now h) (returns-clause-any_moment g c h)

pub returns-clause-reads : goal.returns-clause-reads
returns-clause-reads g c h =
    let old = g.D.Disk.model.folder c.args.disk.now in
    performed-reads (Append Next c.args.bytes.now) old (g.D.Disk.model.folder c.append.new.self) c.append.result _
    (appended_next-reads c.args.bytes.now old (g.met.D.Disk.whole c.args.disk.now h)) (c.append.ensures.goes.change h)

pub returns-clause-left_alone : goal.returns-clause-left_alone
returns-clause-left_alone g c h =
    append_next-leaves_store c.args.bytes.now _ _ c.append.result (g.met.D.Disk.whole c.args.disk.now h) (c.append.ensures.goes.change h)
