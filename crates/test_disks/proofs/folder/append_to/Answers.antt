use Rattle.std.proofs.{Common.{◌≡◌, rules, ◌<◌, length, get_or, ap}, Math.Seq.map-set_same}
use Rattle.{conf_disk.specs.Folder.with_pending, test_disks.{specs.declared.folder.FileData.FileData, proofs.Files.map-set-change}}
use Rattle.test_disks.proofs.folder.append_to.Goals as goal

pub returns-clause-files : goal.returns-clause-files
returns-clause-files c =
    let within : c.args.id < length c.args.files.now.items = search rules in
    let at : c.index_mut.result.now ≡ get_or c.args.files.now.items c.args.id c.index_mut.result.now = search rules in
    map-set-change c.args.files.now.items c.args.id c.index_mut.result.now _ (with_pending c.args.bytes.now) within at
    (λ i. record { synced = c.index_mut.result.now.synced.items; pending = c.in_ok-extend_from_slice.ensures.items i })

pub returns-clause-notes : goal.returns-clause-notes
returns-clause-notes c =
    let x = c.index_mut.result.now in
    let at : x ≡ get_or c.args.files.now.items c.args.id x = search rules in
    map-set_same (λ (file : FileData). file.noted) c.args.files.now.items c.args.id _ x (ap (λ (file : FileData). file.noted) at)
