use Rattle.std.proofs.{Common.{◌≡◌, rules, ◌<◌, ℕ, List, Bool, get_or, set, Some, sym, ◌∙◌, ap, subst}, lemmas.List.length-map}
use Rattle.std.proofs.lemmas.List.{get_or-map}
use Rattle.{conf_disk.specs.Folder.{File, empty_file, under, with_pending}, test_disks.specs.Replay.{file_of, files_of, notes_in, stage_of}}
use Rattle.test_disks.{specs.{Replay.{folder_of, notes_of}, declared.folder.FileData.FileData}, proofs.Files.{under-made, data-made}}
use Rattle.test_disks.proofs.Notes.{notes-appended, append-at, noted_by}
use Rattle.test_disks.proofs.folder.FolderData.append.Goals as goal

pub returns : goal.returns
returns c =
    let old = c.args.self.now in
    let id = c.in-Some.id in
    let x = c.index.result.now in
    let others = old.others_noted in
    let there : under (stage_of old.current) c.args.name ≡ Some id = search rules in
    let within = data-made old.files.items (under (stage_of old.current) c.args.name) id
    (under-made (folder_of old) c.args.name c.requires) there in
    let at : x ≡ get_or old.files.items id x = search rules in
    let file : get_or (files_of old.files) id empty_file ≡ file_of x =
    get_or-map file_of old.files.items id x empty_file within ∙ ap file_of (sym at) in
    let note : x.noted ≡ get_or (notes_in old.files) id others =
    sym (get_or-map (λ (f : FileData). f.noted) old.files.items id x others within ∙ ap (λ (f : FileData). f.noted) (sym at)) in
    let made = c.in_ok-append_to.ensures in
    let files = made.files
    ∙ ap (λ (l : List File). set l id (with_pending c.args.bytes.now (get_or l id empty_file))) c.set_note.ensures.files in
    let notes = made.notes ∙ c.set_note.ensures.notes ∙ ap (set (notes_in old.files) id) c.noted_after_append-noted.ensures in
    let noted = ap (λ (l : List Bool). notes_of l others) notes
    ∙ notes-appended c.args.name (file_of x).pending (notes_in old.files) id others x.noted
    (subst (λ (n : ℕ). id < n) (sym (length-map old.files.items (λ (f : FileData). f.noted))) within) note
    ∙ ap (λ (f : File). noted_by c.args.name f.pending id (notes_of (notes_in old.files) others)) (sym file) in
    (λ i. record (folder_of old) { files = files i; noted = noted i })
    ∙ sym (append-at (folder_of old) c.args.name id c.args.bytes.now there)
