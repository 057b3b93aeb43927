-- What a crash may leave under `store.yaml`, in plain words.
use Rattle.std.specs.Prelude.{◌≡◌, ◌⊎◌, ℕ, List, [], ◌++◌, get_or, Bool, Option, Some, None, option_map}
use Rattle.conf_journal.specs.Prelude.{File, empty_file, Folder, under, bytes_under, Image, IsImage, IsWorn, image_now, DiskModel}
use Rattle.{conf_journal.specs.Prelude.{LeavesOnly, Next}, conf_disk.specs.declared.disk.Name.Name}

-- the most bytes of `store.yaml`
abbrev pub store_limit : ℕ
store_limit = 1073741824

-- a crash now may leave this `store.yaml` with this note
pub record IsStoreOf (folder : Folder) (image : Image) : Type 0 where
  pub left : Image
  pub is : IsImage folder left
  pub same : left.store ≡ image.store
  pub noted : left.several ≡ image.several

-- a crash at any moment since `old` leaves an old store
abbrev pub LeavesOldStore : {D : Type 0} → DiskModel D → D → D → Type 0
LeavesOldStore model old new = LeavesOnly model old new (IsStoreOf (model.folder old))

-- an old store, or this one
abbrev pub LeavesStoreOr : {D : Type 0} → DiskModel D → Option (List ℕ) → D → D
    → Type 0
LeavesStoreOr model other old new =
    LeavesOnly model old new (λ image. IsStoreOf (model.folder old) image ⊎ (image.store ≡ other))

-- an old store, or the staged file
abbrev pub LeavesStoreOrStaged : {D : Type 0} → DiskModel D → D → D → Type 0
LeavesStoreOrStaged model old new =
    LeavesStoreOr model (bytes_under (model.folder old) Next) old new

-- the old bytes, and as many as there are of the new ones or fewer, each as it was or zero
pub record IsTail (old : Option (List ℕ)) (bytes : List ℕ) (store : Option (List ℕ)) : Type 0 where
  pub start : List ℕ
  pub was : old ≡ Some start
  pub left : List ℕ
  pub worn : IsWorn bytes left
  pub is : store ≡ Some (start ++ left)

abbrev pub IsSyncedAt : List File → Option ℕ → Type 0
IsSyncedAt files None = ⊥
IsSyncedAt files (Some id) = (get_or files id empty_file).pending ≡ []

-- the file is there, and nothing of it is pending
abbrev pub IsSynced : Folder → Name → Type 0
IsSynced folder name = IsSyncedAt folder.files (under folder.now name)

-- the bytes of a file with more after them, if there is a file
abbrev pub file_with_bytes : Option (List ℕ) → List ℕ → Option (List ℕ)
file_with_bytes old bytes = option_map (λ (start : List ℕ). start ++ bytes) old

-- what the two names read as, and whether it is noted that several appends may have waited for one sync
abbrev pub ReadsAs : Folder → Option (List ℕ) → Option (List ℕ) → Bool → Type 0
ReadsAs folder store next several = image_now folder ≡ record { store = store; next = next; several = several }
