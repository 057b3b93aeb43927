use Rattle.std.proofs.{Common.{◌≡◌, rules, ◌<◌, ℕ, [], ◌∷◌, map, Some, sym, ◌∙◌, ap, subst}, lemmas.List.{length-map, map-append}}
use Rattle.{conf_disk.specs.{Folder.after_rename, declared.disk.Name.TheVariants.Next}, test_disks.specs.Replay.{files_of, notes_in}}
use Rattle.test_disks.{specs.{Replay.{stage_of, folder_of, notes_of}, declared.folder.FileData.FileData}, proofs.Files.under-made}
use Rattle.test_disks.proofs.{Files.data-made, Notes.notes-unset}
use Rattle.test_disks.proofs.folder.FolderData.rename_next.Goals as goal

pub returns : goal.returns
returns c =
    let old = c.args.self.now in
    let id = c.in-Some.id in
    let others = old.others_noted in
    let there : old.current.next ≡ Some id = search rules in
    let within = data-made old.files.items old.current.next id (under-made (folder_of old) Next c.requires) there in
    let made = c.in_ok-restage.ensures in
    let files = ap files_of made.files ∙ c.set_note.ensures.files in
    let notes = ap notes_in made.files ∙ c.set_note.ensures.notes in
    let noted = (λ i. notes_of (notes i) (made.others i))
    ∙ notes-unset (notes_in old.files) id others
    (subst (λ (n : ℕ). id < n) (sym (length-map old.files.items (λ (f : FileData). f.noted))) within) in
    let earlier = ap (map stage_of) made.stages ∙ map-append stage_of old.earlier.items (old.current ∷ []) in
    (λ i. record { files = files i; earlier = earlier i; now = made.now i; noted = noted i })
    ∙ sym (ap (after_rename (folder_of old)) there)
