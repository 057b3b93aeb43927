use Rattle.std.proofs.{Common.{◌≡◌, ◌++◌, List, ℕ, rules, ◌<◌, ◌∙◌, ap, length, get_or}, Math.Seq.map-set_same}
use Rattle.{conf_disk.specs.Folder.synced_whole, test_disks.{specs.declared.folder.FileData.FileData, proofs.Files.map-set-change}}
use Rattle.test_disks.proofs.folder.sync_whole.Goals as goal

pub returns-clause-files : goal.returns-clause-files
returns-clause-files c =
    let within : c.args.id < length c.args.files.now.items = search rules in
    let at : c.index_mut-file.result.now ≡ get_or c.args.files.now.items c.args.id c.index_mut-file.result.now = search rules in
    let synced = c.in_ok-extend_from_slice.ensures.items
    ∙ ap (λ (l : List ℕ). c.index_mut-file.result.now.synced.items ++ l) c.deref.ensures.value in
    map-set-change c.args.files.now.items c.args.id c.index_mut-file.result.now _ synced_whole within at
    (λ i. record { synced = synced i; pending = c.clear.ensures.items i })

pub returns-clause-notes : goal.returns-clause-notes
returns-clause-notes c =
    let x = c.index_mut-file.result.now in
    let at : x ≡ get_or c.args.files.now.items c.args.id x = search rules in
    map-set_same (λ (file : FileData). file.noted) c.args.files.now.items c.args.id _ x (ap (λ (file : FileData). file.noted) at)
