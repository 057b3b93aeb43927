-- What a crash leaves of the file that is held under `store.yaml`, what it reads as, and what an append makes of it.
use Rattle.std.proofs.Common.{◌≡◌, ℕ, List, [], ◌∷◌, length, get_or, Bool, false, ◌||◌, Option, Some, None, option_map, refl, sym, ◌∙◌, ap}
use Rattle.std.proofs.{Common.subst, Math.Bool.{or-false, or-true}, lemmas.Bool.eq-eqb}
use Rattle.conf_journal.proofs.Prelude.{append-nil, get_or-set_same, All-contains, File, empty_file, file_bytes, Stage, Folder, stages}
use Rattle.conf_journal.proofs.Prelude.{Append, with_file, with_pending, after, bytes_at, bytes_under, Tells, Reads, Image, IsImage}
use Rattle.conf_journal.proofs.Prelude.{IsTornAt, synced_file, IsMade, IsWhole, now_staged, Store, IsTorn-synced, several_waited}
use Rattle.conf_journal.{proofs.Prelude.{with_notes, noted_by_append, noted_at, noted_behind}, specs.{Store.IsStoreOf, Held.file_at}}
use Rattle.conf_journal.specs.{Held.{HoldsStore, IsLeftOf, IsLeftNoted, any_bytes}, Appends.several_after}
use Rattle.conf_disk.specs.declared.disk.Content.TheVariants.{Missing}

left_of_torn : (files : List File) (place : Option ℕ) (store : Option (List ℕ)) → IsTornAt files place store
    → IsLeftOf (file_at files place) store
left_of_torn files None None torn = tt
left_of_torn files None (Some bytes) torn = absurd torn
left_of_torn files (Some id) None torn = absurd torn
left_of_torn files (Some id) (Some bytes) torn = torn

-- where every stage holds a file, a crash leaves of the store what it leaves of that file
pub held-left : (folder : Folder) (file : Option File) → HoldsStore folder file → (image : Image)
    → IsImage folder image → IsLeftOf file image.store
held-left folder file holds image is =
    let same = All-contains (λ (stage : Stage). stage.store ≡ folder.now.store) (stages folder) is.stage holds.same is.among in
    let torn = subst (λ (place : Option ℕ). IsTornAt folder.files place image.store) same is.store in
    subst (λ (f : Option File). IsLeftOf f image.store) holds.is (left_of_torn folder.files folder.now.store image.store torn)

-- and the note
pub held-noted : (folder : Folder) (file : Option File) → HoldsStore folder file → (image : Image)
    → IsImage folder image → IsLeftNoted (several_waited folder) file image
held-noted folder file holds image is = record {
  left = held-left folder file holds image is;
  noted = λ none. subst (λ (place : Option ℕ). folder.noted place ≡ false)
      (All-contains (λ (stage : Stage). stage.store ≡ folder.now.store) (stages folder) is.stage holds.same is.among)
      (is.noted none);
}

synced_left : (bytes : List ℕ) (store : Option (List ℕ)) → IsLeftOf (Some (synced_file bytes)) store → store ≡ Some bytes
synced_left bytes None left = absurd left
synced_left bytes (Some torn) left = ap Some (IsTorn-synced (synced_file bytes) torn refl left ∙ append-nil bytes)

-- where every stage holds a synced file, a crash leaves just its bytes
pub synced-left : (folder : Folder) (bytes : List ℕ) → HoldsStore folder (Some (synced_file bytes)) → (image : Image)
    → IsImage folder image → image.store ≡ Some bytes
synced-left folder bytes holds image is = synced_left bytes image.store (held-left folder (Some (synced_file bytes)) holds image is)

-- one file with nothing pending, or none
left_only : (held store : Option (List ℕ)) → IsLeftOf (option_map synced_file held) store → store ≡ held
left_only (Some bytes) store left = synced_left bytes store left
left_only None None left = refl
left_only None (Some torn) left = absurd left

-- where every stage holds the same synced bytes or none, each store that a stage may leave is that one
pub only-held : (folder : Folder) (held : Option (List ℕ)) (image : Image) → HoldsStore folder (option_map synced_file held)
    → IsStoreOf folder image → image.store ≡ held
only-held folder held image holds is =
    sym is.same ∙ left_only held is.left.store (held-left folder (option_map synced_file held) holds is.left is.is)

missing_none : (store : Option (List ℕ)) (max : ℕ) → Tells store max Missing → store ≡ None
missing_none None max tells = refl
missing_none (Some bytes) max tells = absurd tells

-- a read that finds no file says that there is none
pub missing-none : (folder : Folder) (max : ℕ) → Reads folder Store max Missing → bytes_under folder Store ≡ None
missing-none folder max reads = missing_none (bytes_under folder Store) max reads

file_read : (files : List File) (place : Option ℕ) (held : Option (List ℕ))
    → file_at files place ≡ option_map synced_file held → bytes_at files place ≡ held
file_read files None None is = refl
file_read files None (Some bytes) is = cc
file_read files (Some id) None is = cc
file_read files (Some id) (Some bytes) is =
    let same : get_or files id empty_file ≡ synced_file bytes = cc in
    ap (λ (x : File). Some (file_bytes x)) same ∙ ap Some (append-nil bytes)

-- where every stage holds the same synced bytes or none, these are what is read
pub held-read : (folder : Folder) (held : Option (List ℕ)) → HoldsStore folder (option_map synced_file held)
    → bytes_under folder Store ≡ held
held-read folder held holds = file_read folder.files folder.now.store held holds.is

-- a change of the file
with_file-holds : (folder : Folder) (place : Option ℕ) (change : File → File) (file : Option File)
    → folder.now.store ≡ place → IsMade (length folder.files) place → HoldsStore folder file
    → HoldsStore (with_file folder place change) (option_map change file)
with_file-holds folder None change file at made holds = record {
  same = holds.same;
  is =
      let none : file ≡ None = sym holds.is ∙ ap (file_at folder.files) at in
      ap (file_at folder.files) at ∙ sym (ap (option_map change) none);
}
with_file-holds folder (Some id) change file at made holds = record {
  same = holds.same;
  is =
      ap (file_at (with_file folder (Some id) change).files) at
      ∙ ap Some (get_or-set_same folder.files id (change (get_or folder.files id empty_file)) empty_file made)
      ∙ ap (option_map change) (sym (ap (file_at folder.files) at) ∙ holds.is);
}

-- whatever is noted
with_notes-holds : (folder : Folder) (noted : Option ℕ → Bool) (file : Option File) → HoldsStore folder file
    → HoldsStore (with_notes folder noted) file
with_notes-holds folder noted file holds = record { same = holds.same; is = holds.is }

-- after an append to the store, every stage holds the file with more pending bytes
pub with_pending-holds : (bytes : List ℕ) (folder : Folder) (file : Option File) → IsWhole folder
    → HoldsStore folder file → HoldsStore (after (Append Store bytes) folder) (option_map (with_pending bytes) file)
with_pending-holds bytes folder file whole holds =
    with_notes-holds _ (noted_by_append folder Store) (option_map (with_pending bytes) file)
    (with_file-holds folder folder.now.store (with_pending bytes) file refl (now_staged folder whole).store holds)

noted_behind-is : (pending : List ℕ) (id : ℕ) (noted : Option ℕ → Bool)
    → noted_behind pending (Some id) noted (Some id) ≡ (noted (Some id) || any_bytes pending)
noted_behind-is [] id noted = sym (or-false (noted (Some id)))
noted_behind-is (byte ∷ pending) id noted =
    ap (λ (same : Bool). same || noted (Some id)) (eq-eqb id id refl) ∙ sym (or-true (noted (Some id)))

-- the note of a file after an append to it
noted_at-is : (files : List File) (place : Option ℕ) (noted : Option ℕ → Bool)
    → noted_at files place noted place ≡ several_after (noted place) (file_at files place)
noted_at-is files None noted = sym (or-false (noted None))
noted_at-is files (Some id) noted = noted_behind-is (get_or files id empty_file).pending id noted

-- so the note of the store after an append
pub appended-noted : (folder : Folder) → noted_by_append folder Store folder.now.store
    ≡ several_after (several_waited folder) (file_at folder.files folder.now.store)
appended-noted folder = noted_at-is folder.files folder.now.store folder.noted

with_file-now : (folder : Folder) (place : Option ℕ) (change : File → File) → (with_file folder place change).now ≡ folder.now
with_file-now folder None change = refl
with_file-now folder (Some id) change = refl

-- what a crash leaves after an append to the file that every stage has
pub held-appended : (bytes : List ℕ) (folder : Folder) (file : Option File) → IsWhole folder → HoldsStore folder file
    → (image : Image) → IsImage (after (Append Store bytes) folder) image
    → IsLeftNoted (several_after (several_waited folder) file) (option_map (with_pending bytes) file) image
held-appended bytes folder file whole holds image is =
    let now = held-noted (after (Append Store bytes) folder) (option_map (with_pending bytes) file)
    (with_pending-holds bytes folder file whole holds) image is in
    let noted = ap (λ (stage : Stage). noted_by_append folder Store stage.store)
    (with_file-now folder folder.now.store (with_pending bytes))
    ∙ appended-noted folder
    ∙ ap (several_after (several_waited folder)) holds.is in
    record { left = now.left; noted = λ none. sym noted ∙ now.noted none }
