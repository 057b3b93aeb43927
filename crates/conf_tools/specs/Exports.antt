-- What an export finds, and in which state.
use Rattle.std.specs.Prelude.{◌≡◌, ◌≢◌, ◌⊎◌, ℕ, Bool, true, List, Option, Result, Ok, Err, codes, encode_utf8_all}
use Rattle.conf_tools.specs.Prelude.{Tree, Folder, Tells, bytes_under, several_waited, Image, IsImage, DiskModel, Store, Contents}
use Rattle.conf_tools.specs.Prelude.{StoreFault, AllImagesMean, HasFailed, tree_named, IsNewBase, FileMeans, FolderMeans, RefusesOpening}
use Rattle.conf_tools.specs.{Prelude.{TreeForm, store_limit}, Dropped.{TellsDropped, TellsDroppedOf}, Reads.tree_text}
use Rattle.conf_tools.specs.declared.stores.StoreToolFault.{StoreToolFault, TheVariants.{Open, Export}}
use Rattle.{conf_disk.specs.declared.disk.Content.Content, conf_state.specs.declared.fault.StoreFault.TheVariants.OutOfMemory}
use Rattle.conf_store.specs.declared.fault.OpenFault.TheVariants as OpenFaults

-- the disk that a call hands back, with a value or a fault
abbrev pub disk_back : {D A F : Type 0} → Result (D × A) (D × F) → D
disk_back (Ok r) = r.0
disk_back (Err r) = r.0

-- the disk that a call hands back, alone or with a fault
abbrev pub disk_handed_back : {D F : Type 0} → Result D (D × F) → D
disk_handed_back (Ok disk) = disk
disk_handed_back (Err r) = r.0

-- The state that an export finds is what `store.yaml` means at its end, and what it meant at its start. If the device
-- failed, the file may be the whole new base of the state that it meant, and the state is only known to be what the
-- file meant if it was noted that several commands may have waited.
pub record Finds {D : Type 0} (model : DiskModel D) (old new : D)
    (state : Contents) : Type 0 where
  pub at_end : model.honest → FolderMeans (model.folder new) state
  pub at_start : model.honest → FolderMeans (model.folder old) state
      ⊎ (HasFailed (model.failure_count old) (model.failure_count new)
      × (FileMeans true (bytes_under (model.folder old) Store) state
      ⊎ IsNewBase (several_waited (model.folder old)) (bytes_under (model.folder old) Store)
      (bytes_under (model.folder new) Store)))

-- the bytes are the tree that was found, written in this form in UTF-8
abbrev pub IsTextOfFound : TreeForm → Result Tree StoreFault → List ℕ → Type 0
IsTextOfFound form found bytes = (tree : Tree) × (found ≡ Ok tree) × (bytes ≡ encode_utf8_all (tree_text form tree))

-- the bytes are the configuration under the name, written in this form in UTF-8
pub record IsTextOf (form : TreeForm) (state : Contents) (name bytes : List ℕ) : Type 0 where
  pub tree : Tree
  pub named : tree_named state name ≡ Ok tree
  pub is : bytes ≡ encode_utf8_all (tree_text form tree)

-- the same of the state that a file with this note means which was read as this content
pub record IsTextIn (several : Bool) (form : TreeForm) (content : Content) (name bytes : List ℕ) : Type 0 where
  pub state : Contents
  pub means : (file : Option (List ℕ)) → Tells file store_limit content → FileMeans several file state
  pub exports : IsTextOf form state name bytes

-- the same of the state that an export finds
pub record HasText {D : Type 0} (model : DiskModel D) (form : TreeForm) (old new : D)
    (name bytes : List ℕ) : Type 0 where
  pub state : Contents
  pub finds : Finds model old new state
  pub exports : IsTextOf form state name bytes

-- memory ran out, or the state has no configuration under the name, for this reason
pub record HasNoText {D : Type 0} (model : DiskModel D) (old new : D)
    (name : List ℕ) (fault : StoreFault) : Type 0 where
  pub state : Contents
  pub finds : Finds model old new state
  pub why : (fault ≡ OutOfMemory) ⊎ (tree_named state name ≡ Err fault)

-- Why a file that was read as this content gives no text: it means nothing, memory ran out, or the state that it means
-- has no configuration under the name.
abbrev pub HasNoTextIn : Bool → Content → List ℕ → StoreToolFault → Type 0
HasNoTextIn several content name (Open fault) =
    ((file : Option (List ℕ)) → Tells file store_limit content → RefusesOpening fault several file)
    × (fault ≢ OpenFaults.Device)
HasNoTextIn several content name (Export fault) =
    (state : Contents) × ((file : Option (List ℕ)) → Tells file store_limit content → FileMeans several file state)
    × ((fault ≡ OutOfMemory) ⊎ (tree_named state name ≡ Err fault))
HasNoTextIn several content name fault = ⊥

-- Why there is no text. At Device the device failed.
abbrev pub LacksText : {D : Type 0} → DiskModel D → D → D → List ℕ → StoreToolFault → Type 0
LacksText model old new name (Open fault) =
    (model.honest → RefusesOpening fault (several_waited (model.folder new)) (bytes_under (model.folder new) Store))
    × (fault ≡ OpenFaults.Device → HasFailed (model.failure_count old) (model.failure_count new))
LacksText model old new name (Export fault) = HasNoText model old new name fault
LacksText model old new name fault = ⊥

-- ---- what is on the device, and what is told

-- whatever a crash leaves of the folder, `store.yaml` is as it reads now
abbrev pub CrashKeepsStore : Folder → Type 0
CrashKeepsStore folder = (image : Image) → IsImage folder image → image.store ≡ bytes_under folder Store

-- whatever a crash leaves of the folder means a state that has this text under the name
pub record CrashKeepsText (folder : Folder) (form : TreeForm) (name bytes : List ℕ) : Type 0 where
  pub state : Contents
  pub images : AllImagesMean folder state
  pub exports : IsTextOf form state name bytes

-- the line for a file that was read as it stands
abbrev pub read_alone_line : List ℕ
read_alone_line =
    codes "confstore: store.yaml was only read, not put on the device: a crash may undo its last commands\n"

module _ {E : Type 0} (hears : E → List ℕ → E → Type 0) where
  -- at most what opening dropped was told, or that the file was read as it stands
  abbrev pub TellsExport : E → E → Type 0
  TellsExport old new = TellsDropped hears old new ⊎ hears old read_alone_line new

  -- the device failed, and it was told that the file was read as it stands
  abbrev pub TellsReadAlone : ℕ → ℕ → E → E → Type 0
  TellsReadAlone before now old new = HasFailed before now × hears old read_alone_line new

  -- No crash takes back the text that was exported, and what opening dropped was told; or it was told that the file was
  -- read as it stands, since the device failed.
  abbrev pub LastsOrTells : {D : Type 0} → DiskModel D → TreeForm → D → D → List ℕ → List ℕ → E → E → Type 0
  LastsOrTells model form old new name bytes before now =
      (CrashKeepsText (model.folder new) form name bytes
      × TellsDroppedOf hears (several_waited (model.folder old)) (bytes_under (model.folder old) Store) before now)
      ⊎ TellsReadAlone (model.failure_count old) (model.failure_count new) before now
