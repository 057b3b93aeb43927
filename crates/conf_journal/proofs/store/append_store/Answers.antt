use Rattle.std.proofs.Common.{[]}
use Rattle.conf_journal.proofs.{Prelude.{Append, Store}, Appends.leaves-with_pending, Reading.{appended_store-reads, performed-reads}}
use Rattle.conf_journal.proofs.Runs.{run-call}
use Rattle.conf_journal.proofs.store.append_store.Goals as goal

pub returns-clause-leaves : goal.returns-clause-leaves
returns-clause-leaves g c h =
    let d = g.D.Disk in
    leaves-with_pending d.model c.args.bytes.now _ _ (g.met.D.Disk.whole c.args.disk.now h)
    (run-call d g.met.D.Disk.only_now h [] c.append.ensures.goes).leaves

pub returns-clause-reads : goal.returns-clause-reads
returns-clause-reads g c h =
    let old = g.D.Disk.model.folder c.args.disk.now in
    performed-reads (Append Store c.args.bytes.now) old (g.D.Disk.model.folder c.append.new.self) c.append.result _
    (appended_store-reads c.args.bytes.now old (g.met.D.Disk.whole c.args.disk.now h)) (c.append.ensures.goes.change h)
