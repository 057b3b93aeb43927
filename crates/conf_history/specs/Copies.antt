-- A store's base and records as they stand in its file, in a new store, and why there is none.
use Rattle.std.specs.Prelude.{◌≡◌, ◌≢◌, ◌⊎◌, ℕ, Bool, List, ◌++◌, Option, Some, None, Result, Ok, Err, IfSome}
use Rattle.conf_history.specs.Prelude.{IsAtEnd, concat, Pieces, Folder, bytes_under, Image, IsImage, image_now, DiskModel, LeavesOnly}
use Rattle.conf_history.specs.Prelude.{Store, IsStoreOf, store_limit, Contents, AllImagesMean, MayBeDropped, Means, PiecesMean}
use Rattle.conf_history.specs.{Prelude.StartsWithHole, Histories.{ReadsAtMost, RefusesReading}, declared.fault.SalvageFault.SalvageFault}
use Rattle.conf_history.specs.declared.fault.SalvageFault.TheVariants.{History, StoreExists, Device, OutOfMemory}

-- The bytes are a base and records, which mean `s`, other pieces that a crash may have left, and a rest that isn't
-- closed. The copy is the base and the records.
pub record CopiesPieces (several : Bool) (bytes copy : List ℕ) (s : Contents) : Type 0 where
  pub pieces : List (List ℕ)
  pub others : List (List ℕ)
  pub rest : List ℕ
  pub cut : Pieces bytes (pieces ++ others) rest
  pub mean : PiecesMean pieces s
  pub hole : StartsWithHole others
  pub lost : MayBeDropped several others
  pub is : copy ≡ concat pieces

-- The copy is that of the known bytes, and means the state that they mean, with any note. All that there are were read,
-- at most 1,073,741,824.
pub record ReadsCopy (several : Bool) (given left : Option (List ℕ)) (copy : List ℕ) : Type 0 where
  pub s : Contents
  pub holds : IfSome given (λ bytes. CopiesPieces several bytes copy s)
  pub means : (note : Bool) → Means note copy s
  pub at_end : IsAtEnd left
  pub read : ReadsAtMost store_limit given left

-- ---- a new file

-- There was no `store.yaml`. Now it has these bytes, and a crash leaves them.
pub record CreatesFile (old : Folder) (bytes : List ℕ) (new : Folder) : Type 0 where
  pub missing : bytes_under old Store ≡ None
  pub file : bytes_under new Store ≡ Some bytes
  pub left : (image : Image) → IsImage new image → image.store ≡ Some bytes

-- Why no file of these bytes was made. At StoreExists there is a `store.yaml`, and nothing has changed. At OutOfMemory
-- both files read as before. At Device `store.yaml` reads as before, or there was none and now it has these bytes.
abbrev pub RefusesFile : Folder → List ℕ → SalvageFault → Folder → Type 0
RefusesFile old bytes StoreExists new = (bytes_under old Store ≢ None) × (new ≡ old)
RefusesFile old bytes OutOfMemory new = image_now new ≡ image_now old
RefusesFile old bytes Device new =
    (bytes_under new Store ≡ bytes_under old Store)
    ⊎ (bytes_under old Store ≡ None) × (bytes_under new Store ≡ Some bytes)
RefusesFile old bytes (History fault) new = ⊥

-- ---- a new store

-- A new store was made where there was none. Its file is the copy of what was read, and a crash leaves that from now on.
pub record BacksUp (several : Bool) (given left : Option (List ℕ)) (old new : Folder) : Type 0 where
  pub copy : List ℕ
  pub reads : ReadsCopy several given left copy
  pub creates : CreatesFile old copy new
  pub now : AllImagesMean new reads.s

-- no store was made of the copy
pub record RefusesCopy (several : Bool) (given left : Option (List ℕ)) (old new : Folder)
    (fault : SalvageFault) : Type 0 where
  pub copy : List ℕ
  pub reads : ReadsCopy several given left copy
  pub refused : RefusesFile old copy fault new

-- Why there is no new store. At a fault of the file nothing of the disk has changed; OutOfMemory may be one.
abbrev pub RefusesBackup : Bool → Option (List ℕ) → Option (List ℕ) → Folder → Folder → SalvageFault → Type 0
RefusesBackup several given left old new (History fault) =
    IfSome given (λ bytes. RefusesReading several bytes None fault) × (new ≡ old)
RefusesBackup several given left old new fault = RefusesCopy several given left old new fault

-- the whole copy of what was read
pub record IsCopied (several : Bool) (given left : Option (List ℕ)) (store : Option (List ℕ)) : Type 0 where
  pub copy : List ℕ
  pub reads : ReadsCopy several given left copy
  pub is : store ≡ Some copy

-- a crash at any moment since `old` leaves an old store, or the whole copy
abbrev pub LeavesOldOrCopy : {D : Type 0} → Bool → DiskModel D → Option (List ℕ) → Option (List ℕ) → D → D
    → Type 0
LeavesOldOrCopy several model given left old new =
    LeavesOnly model old new (λ image. IsStoreOf (model.folder old) image ⊎ IsCopied several given left image.store)

-- the disk that is handed back
abbrev pub disk_handed_back : {D : Type 0} → Result D (D × SalvageFault) → D
disk_handed_back (Ok disk) = disk
disk_handed_back (Err r) = r.0
