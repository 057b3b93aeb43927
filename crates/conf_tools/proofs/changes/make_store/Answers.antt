-- A crash while the file is looked for leaves no more than one before, and then what one of the opening leaves.
use Rattle.std.proofs.Common.{sym, subst}
use Rattle.conf_tools.proofs.{Prelude.{LeavesOnly, MeantAtEntry, Reads, Content, Store}, ChangeLemmas.looked-leaves, MadeLemmas.made-empty}
use Rattle.conf_tools.proofs.changes.make_store.Goals as goal

pub returns-in-Ok-open_told-clause-made : goal.returns-in-Ok-open_told-clause-made
returns-in-Ok-open_told-clause-made g c h =
    let d = g.D.Disk in
    let looked = c.in-Ok-Missing in
    made-empty d.model c.args.disk c.read.new.self c.close.result c.in-Ok-open_told.store 0 h
    (subst (λ (content : Content). Reads (d.model.folder c.args.disk) Store 0 content) looked.field-0-is (looked.ensures.content h))
    (c.read.ensures.same h) c.in-Ok-open_told.ensures.opens c.close.ensures

pub returns-in-Ok-open_told-clause-crashes : goal.returns-in-Ok-open_told-clause-crashes
returns-in-Ok-open_told-clause-crashes g c h =
    let d = g.D.Disk in
    let mid = c.read.new.self in
    subst (λ (disk : g.row.D.Denot). LeavesOnly d.model c.args.disk disk
    (MeantAtEntry (d.model.folder c.args.disk))) (sym c.close.ensures)
    (looked-leaves d.model c.args.disk mid c.in-Ok-open_told.store.disk
    (λ t image le is. g.met.D.Disk.counts_now mid t image h le is) (λ image is. g.met.D.Disk.only_now c.args.disk image h is)
    (c.read.ensures.time h) (c.read.ensures.same h) (c.in-Ok-open_told.ensures.opens.at_any_moment h))

pub returns-in-Err-clause-crashes : goal.returns-in-Err-clause-crashes
returns-in-Err-clause-crashes g c h =
    let d = g.D.Disk in
    let mid = c.read.new.self in
    looked-leaves d.model c.args.disk mid c.in-Err.disk
    (λ t image le is. g.met.D.Disk.counts_now mid t image h le is) (λ image is. g.met.D.Disk.only_now c.args.disk image h is)
    (c.read.ensures.time h) (c.read.ensures.same h) (c.in-Err.ensures.refused.at_any_moment h)
