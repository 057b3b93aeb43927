-- What the files of a folder read as, and what opening makes of them.
use Rattle.std.specs.Prelude.{◌≡◌, ◌≢◌, ◌⊎◌, ℕ, Bool, List, length, Option, Some, None}
use Rattle.conf_store.specs.Prelude.{bytes_under, several_waited, Image, IsImage, image_now, DiskModel, LeavesOnly, Store, IsStoreOf}
use Rattle.{conf_store.specs.{Prelude.Contents, Meaning.FileMeans, Opens.{FileRecoversTo, file_format}}, conf_record.specs.Formats.base_in}

-- the file is there, and has so many bytes
abbrev pub HasLength : Option (List ℕ) → ℕ → Type 0
HasLength None size = ⊥
HasLength (Some bytes) size = length bytes ≡ size

-- No file and no name has changed. Both names read as before. What a crash leaves of both files, now and at any moment
-- since `old`, it could leave at `old`.
pub record FilesStay {D : Type 0} (model : DiskModel D)
    (old new : D) : Type 0 where
  pub reads : image_now (model.folder new) ≡ image_now (model.folder old)
  pub now : (image : Image) → IsImage (model.folder new) image → IsImage (model.folder old) image
  pub any_moment : LeavesOnly model old new (IsImage (model.folder old))

-- `file` is the whole new base that opening writes over `old`. The old file means this state, and is missing or has
-- bytes after its last closing line.
pub record IsNewBase (several : Bool) (old file : Option (List ℕ)) : Type 0 where
  pub state : Contents
  pub means : FileMeans several old state
  pub records : ℕ
  pub dropped : ℕ
  pub recovers : FileRecoversTo several old state records dropped
  pub needed : (old ≡ None) ⊎ (dropped ≢ 0)
  pub is : file ≡ Some (base_in (file_format old) state)

-- the old file, or the whole new base
abbrev pub IsOldOrBase : Bool → Option (List ℕ) → Option (List ℕ) → Type 0
IsOldOrBase several old file = (file ≡ old) ⊎ IsNewBase several old file

-- a crash at any moment since `old` leaves an old `store.yaml`, or the whole new base
abbrev pub LeavesOldOrBase : {D : Type 0} → DiskModel D → D → D → Type 0
LeavesOldOrBase model old new =
    LeavesOnly model old new
    (λ image. IsStoreOf (model.folder old) image
    ⊎ IsNewBase (several_waited (model.folder old)) (bytes_under (model.folder old) Store) image.store)
