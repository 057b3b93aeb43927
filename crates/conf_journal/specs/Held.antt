-- One file that is `store.yaml` in every stage.
use Rattle.std.specs.Prelude.{◌≡◌, ℕ, List, [], ◌∷◌, get_or, All, Option, Some, None, option_map, Bool, true, false}
use Rattle.conf_journal.specs.Prelude.{File, empty_file, Stage, Folder, stages, several_waited, bytes_under, Reads, Image, IsImage, IsTorn}
use Rattle.conf_journal.specs.{Prelude.{synced_file, Store, Next}, Store.IsStoreOf}
use Rattle.conf_disk.specs.declared.disk.Content.TheVariants.{Missing}

-- the file at a place among the folder's files, if a name has one
abbrev pub file_at : List File → Option ℕ → Option File
file_at files None = None
file_at files (Some id) = Some (get_or files id empty_file)

-- Every stage has this file under `store.yaml`, and the same one; or none has a file there.
pub record HoldsStore (folder : Folder) (file : Option File) : Type 0 where
  pub same : All (λ (stage : Stage). stage.store ≡ folder.now.store) (stages folder)
  pub is : file_at folder.files folder.now.store ≡ file

-- the new folder has the bytes that were under `next.yaml` under `store.yaml` in every stage, and none are pending
abbrev pub HoldsStaged : Folder → Folder → Type 0
HoldsStaged old new = (bytes : List ℕ) → bytes_under old Next ≡ Some bytes → HoldsStore new (Some (synced_file bytes))

-- what a crash leaves of a file, if there is one
abbrev pub IsLeftOf : Option File → Option (List ℕ) → Type 0
IsLeftOf None None = Unit {0}
IsLeftOf None (Some bytes) = ⊥
IsLeftOf (Some file) None = ⊥
IsLeftOf (Some file) (Some bytes) = IsTorn file bytes

-- what a crash leaves of a file, if there is one, and of its note: it leaves the note if there is one
pub record IsLeftNoted (several : Bool) (file : Option File) (image : Image) : Type 0 where
  pub left : IsLeftOf file image.store
  pub noted : image.several ≡ false → several ≡ false

-- there are bytes
abbrev pub any_bytes : List ℕ → Bool
any_bytes [] = false
any_bytes (byte ∷ bytes) = true

-- bytes of a file are pending, if there is one
abbrev pub waits_in : Option File → Bool
waits_in None = false
waits_in (Some file) = any_bytes file.pending

-- a crash leaves of the store what it leaves of the file that every stage has there
abbrev pub HeldIsLeft : Type 0
HeldIsLeft = (folder : Folder) (file : Option File) → HoldsStore folder file → (image : Image) → IsImage folder image
    → IsLeftOf file image.store

-- and the note, if there is one
abbrev pub HeldIsNoted : Type 0
HeldIsNoted = (folder : Folder) (file : Option File) → HoldsStore folder file → (image : Image) → IsImage folder image
    → IsLeftNoted (several_waited folder) file image

-- if nothing of that file is pending, it leaves exactly its bytes
abbrev pub SyncedIsLeft : Type 0
SyncedIsLeft = (folder : Folder) (bytes : List ℕ) → HoldsStore folder (Some (synced_file bytes)) → (image : Image)
    → IsImage folder image → image.store ≡ Some bytes

-- ---- every stage has the same file with nothing pending, or none has a file: `held` is its bytes

-- a crash leaves exactly that
abbrev pub OnlyHeldIsLeft : Type 0
OnlyHeldIsLeft = (folder : Folder) (held : Option (List ℕ)) (image : Image)
    → HoldsStore folder (option_map synced_file held) → IsStoreOf folder image → image.store ≡ held

-- and that is what reads
abbrev pub HeldIsRead : Type 0
HeldIsRead = (folder : Folder) (held : Option (List ℕ)) → HoldsStore folder (option_map synced_file held)
    → bytes_under folder Store ≡ held

-- a read returns `Missing` only if there is no file
abbrev pub MissingIsNone : Type 0
MissingIsNone = (folder : Folder) (max : ℕ) → Reads folder Store max Missing → bytes_under folder Store ≡ None
