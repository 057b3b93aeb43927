use Rattle.std.proofs.{Common.{◌≡◌, rules, get_or, ap}, lemmas.List.map-set, Math.Seq.map-set_same}
use Rattle.test_disks.specs.{Replay.file_of, declared.folder.FileData.FileData}
use Rattle.test_disks.proofs.folder.set_note.Goals as goal

pub returns-clause-files : goal.returns-clause-files
returns-clause-files c =
    let x = c.index_mut.result.now in
    let at : x ≡ get_or c.args.files.now.items c.args.id x = search rules in
    map-set_same file_of c.args.files.now.items c.args.id _ x (ap file_of at)

pub returns-clause-notes : goal.returns-clause-notes
returns-clause-notes c = map-set (λ (file : FileData). file.noted) c.args.files.now.items c.args.id _
