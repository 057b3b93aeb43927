-- What is saved from a store's file, and why nothing is.
use Rattle.std.specs.Prelude.{◌≡◌, ◌⊎◌, ℕ, Bool, List, Option, Some, None, Result, Ok, Err, IfSome}
use Rattle.conf_history.specs.Prelude.{Folder, bytes_under, DiskModel, LeavesOnly, Store, IsStoreOf, Contents, AllImagesMean}
use Rattle.conf_history.specs.declared.fault.SalvageFault.{SalvageFault, TheVariants.{History, StoreExists, Device, OutOfMemory}}
use Rattle.conf_history.specs.{declared.survey.Findings.Findings, Histories.{ReadsSurvey, RefusesSurvey}}
use Rattle.{conf_state.specs.BaseTexts.base_bytes, conf_store.specs.{Creates.RefusesCreation, declared.creating.CreateFault.CreateFault}}
use Rattle.conf_store.specs.declared.creating.CreateFault.TheVariants as create

-- A new store was made where there was none. It has the state that stands before the first bad piece of what was read,
-- and a crash leaves it from now on.
pub record Saves (several : Bool) (given left : Option (List ℕ)) (old new : Folder)
    (findings : Findings) : Type 0 where
  pub s : Contents
  pub reads : ReadsSurvey several given left s findings
  pub missing : bytes_under old Store ≡ None
  pub file : bytes_under new Store ≡ Some (base_bytes s)
  pub now : AllImagesMean new s

-- why no store was made of what was read
pub record Refused (several : Bool) (given left : Option (List ℕ)) (old new : Folder)
    (fault : CreateFault) : Type 0 where
  pub s : Contents
  pub findings : Findings
  pub reads : ReadsSurvey several given left s findings
  pub refused : RefusesCreation old s fault new

-- Why nothing was saved. At a fault of the file nothing of the disk has changed; OutOfMemory may be one.
abbrev pub RefusesSalvage : Bool → Option (List ℕ) → Option (List ℕ) → Folder → Folder → SalvageFault → Type 0
RefusesSalvage several given left old new (History fault) =
    IfSome given (λ bytes. RefusesSurvey bytes fault) × (new ≡ old)
RefusesSalvage several given left old new StoreExists = Refused several given left old new create.StoreExists
RefusesSalvage several given left old new Device = Refused several given left old new create.Device
RefusesSalvage several given left old new OutOfMemory = Refused several given left old new create.OutOfMemory

-- the whole base of the state that stands before the first bad piece of what was read
pub record IsSaved (several : Bool) (given left : Option (List ℕ)) (store : Option (List ℕ)) : Type 0 where
  pub s : Contents
  pub findings : Findings
  pub reads : ReadsSurvey several given left s findings
  pub is : store ≡ Some (base_bytes s)

-- a crash at any moment since `old` leaves an old store, or the whole new one
abbrev pub LeavesOldOrSaved : {D : Type 0} → Bool → DiskModel D → Option (List ℕ) → Option (List ℕ) → D → D
    → Type 0
LeavesOldOrSaved several model given left old new =
    LeavesOnly model old new (λ image. IsStoreOf (model.folder old) image ⊎ IsSaved several given left image.store)

-- the disk that is handed back
abbrev pub disk_of : {D : Type 0} → Result (D × Findings) (D × SalvageFault) → D
disk_of (Ok r) = r.0
disk_of (Err r) = r.0
