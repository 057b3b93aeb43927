-- What a change of a store that was asked for by itself makes of it, and what a crash leaves.
use Rattle.std.specs.Prelude.{◌≡◌, ◌≢◌, ◌⊎◌, ℕ, Bool, true, false, if◌then◌else◌, List, [], ◌∷◌, length, Option, None, Some, Result, Ok}
use Rattle.std.specs.Prelude.{Err}
use Rattle.conf_tools.specs.Prelude.{Tree, IsRead, config_limits, Condition, first_fault, ConditionFault, Folder, bytes_under}
use Rattle.conf_tools.specs.Prelude.{several_waited, Image, IsImage, DiskModel, LeavesOnly, Store, batch, command_of, delete_at, import_as}
use Rattle.conf_tools.specs.Prelude.{single, text_of, Contents, StoreFault, Reopen, Device, Accepts, HasFailed, RefusesCommand, tree_named}
use Rattle.conf_tools.specs.Prelude.{AppendsRecord, store_file, MeansPrefix, AllImagesMean, IsOldOrBase, FolderMeans, ImageMeans}
use Rattle.conf_tools.specs.Prelude.{empty_state, MeantAtEntry, StoreView, AfterAtLeast, OpenFault, tree_of}
use Rattle.conf_tools.specs.declared.stores.StoreToolFault.{StoreToolFault, TheVariants.{Condition as OnCondition, Open, Refused}}
use Rattle.conf_tools.specs.declared.{stores.StoreToolFault.TheVariants.StoreExists, changes.Change.{Change, TheVariants.{Act, Checkpoint}}}
use Rattle.conf_tools.specs.{declared.changes.Action.{Action, TheVariants.{Import, Perform, Copy, Rename, Edit}}, Stores.CannotOpen}
use Rattle.conf_tools.specs.{Stores.OpensOn, Edits.{LacksEdit, edits}}
use Rattle.{conf_conditions.specs.declared.fault.ConditionFault.TheVariants.OutOfMemory as NoMemory, conf_state.specs.BaseTexts.base_bytes}
use Rattle.conf_state.specs.{Commands.{Command as GivenCommand, noted}, declared.fault.StoreFault.TheVariants.OutOfMemory}
use Rattle.{conf_record.specs.Formats.base_in, yaml_grammar.specs.Texts.same_text, conf_store.specs.Imports.{IsImportOf, RefusesText}}
use Rattle.yaml_data.specs.declared.tree.Tree.{Tree as AboutTree}
use Rattle.conf_store.specs.declared.fault.OpenFault.TheVariants as OpenFaults

-- ---- commands that are made of a state

-- the command that puts a tree under a name
abbrev pub copies : List ℕ → Tree → GivenCommand
copies to tree = single (import_as to tree)

-- the command that deletes what is under a name, and then puts a tree under another one
abbrev pub moves : List ℕ → List ℕ → Tree → GivenCommand
moves name to tree = batch (delete_at name [] ∷ import_as to tree ∷ [])

-- the same; where the two names are one, the tree is only put there, so that it keeps its place
abbrev pub renames : List ℕ → List ℕ → Tree → GivenCommand
renames name to tree = if same_text name to then copies to tree else moves name to tree

-- the command is made so of the tree under a name
pub record IsMadeOf (s : Contents) (name : List ℕ) (makes : Tree → GivenCommand) (command : GivenCommand) : Type 0 where
  pub tree : Tree
  pub named : tree_named s name ≡ Ok tree
  pub is : command ≡ makes tree

-- there is no tree under a name, for this reason; or memory ran out
abbrev pub LacksTree : Contents → List ℕ → StoreFault → Type 0
LacksTree s name fault = (fault ≡ OutOfMemory) ⊎ (tree_named s name ≡ Err fault)

-- ---- the command of an action

-- the command that an action is on a state
abbrev pub Gives : Contents → Action → GivenCommand → Type 0
Gives s (Import name text) command = IsImportOf (text_of name) text.now command
Gives s (Perform given) command = command ≡ command_of given
Gives s (Copy name to) command = IsMadeOf s (text_of name) (copies (text_of to)) command
Gives s (Rename name to) command = IsMadeOf s (text_of name) (renames (text_of name) (text_of to)) command
Gives s (Edit name edit) command = IsMadeOf s (text_of name) (edits (text_of name) edit) command

-- why it is none
abbrev pub GivesNone : Contents → Action → StoreFault → Type 0
GivesNone s (Import name text) fault = RefusesText (text_of name) text.now fault
GivesNone s (Perform given) fault = ⊥
GivesNone s (Copy name to) fault = LacksTree s (text_of name) fault
GivesNone s (Rename name to) fault = LacksTree s (text_of name) fault
GivesNone s (Edit name edit) fault = LacksEdit s (text_of name) edit fault

-- a command without its about
abbrev pub without_about : GivenCommand → GivenCommand
without_about (single edit) = single edit
without_about (batch edits) = batch edits
without_about (noted command about) = without_about command

-- a command with an about in the place of its own, if there is one
abbrev pub with_about : Option AboutTree → GivenCommand → GivenCommand
with_about None command = command
with_about (Some about) command = noted (without_about command) (tree_of about)

-- what a change performs on a state: the command of its action with its about; a checkpoint performs none
abbrev pub Performs : Contents → Change → List GivenCommand → Type 0
Performs s (Act action about) commands =
    (command : GivenCommand) × Gives s action command × (commands ≡ with_about about command ∷ [])
Performs s Checkpoint commands = commands ≡ []

-- ---- an open store

module _ {D : Type 0} (old : StoreView D) (action : Action) (about : Option AboutTree) where
  -- the command of an action was accepted, with the about
  pub record Acts (new : StoreView D) : Type 0 where
    pub command : GivenCommand
    pub gives : Gives old.state action command
    pub accepts : Accepts old (with_about about command) new

  -- that command was refused
  pub record RefusesCommandOf (new : StoreView D) (fault : StoreFault) : Type 0 where
    pub command : GivenCommand
    pub gives : Gives old.state action command
    pub refuses : RefusesCommand old (with_about about command) new fault

  -- Why it was not accepted: there is none, or it was refused. Reopen and OutOfMemory say nothing of them.
  abbrev pub RefusesAction : StoreView D → StoreFault → Type 0
  RefusesAction new Reopen = Unit {0}
  RefusesAction new OutOfMemory = Unit {0}
  RefusesAction new Device = RefusesCommandOf new Device
  RefusesAction new fault = GivesNone old.state action fault ⊎ RefusesCommandOf new fault

  -- `after` is `before` with the command's record appended
  pub record AppendsAction (before after : Option (List ℕ)) : Type 0 where
    pub command : GivenCommand
    pub gives : Gives old.state action command
    pub appends : AppendsRecord old (with_about about command) before after

-- The change was made: its command was accepted, or the file is as short as a base of the state.
abbrev pub Makes : {D : Type 0} → StoreView D → Change → StoreView D → Type 0
Makes old (Act action about) new = Acts old action about new
Makes old Checkpoint new = (new.state ≡ old.state) × (new.size ≡ length (base_in old.format old.state))

-- Why the change was refused.
abbrev pub RefusesChange : {D : Type 0} → StoreView D → Change → StoreView D → StoreFault → Type 0
RefusesChange old (Act action about) new fault = RefusesAction old action about new fault
RefusesChange old Checkpoint new fault =
    (new.state ≡ old.state) × ((fault ≡ Reopen) ⊎ (fault ≡ Device) ⊎ (fault ≡ OutOfMemory))

-- What `store.yaml` reads as after a change, of what it read as before: the command's record is appended, or a base of
-- the state is in its place.
abbrev pub ReadsChanged : {D : Type 0} → StoreView D → Change → Option (List ℕ) → Option (List ℕ) → Type 0
ReadsChanged old (Act action about) before after = AppendsAction old action about before after
ReadsChanged old Checkpoint before after = after ≡ Some (base_in old.format old.state)

-- the image means the state before a call, or the one after it
abbrev pub MeansOneOf : Contents → Contents → Image → Type 0
MeansOneOf before after image = ImageMeans image before ⊎ ImageMeans image after

-- ---- a disk

-- The conditions held of the store that opening made of the disk. The change was made on it, and is on the disk that is
-- handed back.
pub record ChangesOn {D : Type 0} (model : DiskModel D) (old : D) (conditions : List Condition) (change : Change)
    (new : D) : Type 0 where
  pub opened : StoreView D
  pub opens : OpensOn model old opened
  pub met : first_fault opened.state conditions ≡ None
  pub closed : StoreView D
  pub makes : Makes opened change closed
  pub back : new ≡ closed.disk
  pub reads : model.honest → ReadsChanged opened change (store_file model opened.disk) (store_file model new)
  pub images : model.honest → AllImagesMean (model.folder new) closed.state

-- The conditions held of the store that opening made of the disk, and it refused the change. Unless the device failed,
-- that changed nothing. Device is the fault only where it failed during the call.
pub record RefusesOn {D : Type 0} (model : DiskModel D) (old : D) (conditions : List Condition) (change : Change)
    (new : D) (fault : StoreFault) : Type 0 where
  pub opened : StoreView D
  pub opens : OpensOn model old opened
  pub met : first_fault opened.state conditions ≡ None
  pub closed : StoreView D
  pub refuses : RefusesChange opened change closed fault
  pub not_reopen : fault ≢ Reopen
  pub back : new ≡ closed.disk
  pub same : fault ≢ Device → closed ≡ opened
  pub cause : fault ≡ Device → HasFailed (model.failure_count old) (model.failure_count new)

-- A condition did not hold of the store that opening made of the disk, and this is the fault of the first such one; or
-- memory ran out. The disk that is handed back is that store's.
pub record FailsOn {D : Type 0} (model : DiskModel D) (old : D) (conditions : List Condition) (new : D)
    (fault : ConditionFault) : Type 0 where
  pub opened : StoreView D
  pub opens : OpensOn model old opened
  pub fails : fault ≢ NoMemory → first_fault opened.state conditions ≡ Some fault
  pub back : new ≡ opened.disk

-- why a change of the store on a disk was not made
abbrev pub CannotChange : {D : Type 0} → DiskModel D → D → List Condition
    → Change → D → StoreToolFault → Type 0
CannotChange model old conditions change new (Open fault) =
    CannotOpen model old new fault
CannotChange model old conditions change new (OnCondition fault) =
    FailsOn model old conditions new fault
CannotChange model old conditions change new (Refused fault) =
    RefusesOn model old conditions change new fault
CannotChange model old conditions change new fault = ⊥

-- ---- what a crash leaves

-- What a change promises. `opened` is the disk once the store is open. Until then a crash leaves what the disk might
-- have left before the call; from then on, the state that `store.yaml` meant, or the one after the accepted command. Where
-- the call returned that the change is made, its command is on the disk.
pub record KeepsChange {D : Type 0} (model : DiskModel D)
    (old : D) (change : Change) (new : D) (is_done : Bool) : Type 0 where
  pub start : Contents
  pub means : FolderMeans (model.folder old) start
  pub opened : D
  pub accepted : List GivenCommand
  pub of : (accepted ≡ []) ⊎ Performs start change accepted
  pub all : is_done ≡ true → Performs start change accepted
  pub while_opening : LeavesOnly model old opened (MeantAtEntry (model.folder old))
  pub once_open : LeavesOnly model opened new (MeansPrefix start accepted)
  pub returned : (image : Image) → IsImage (model.folder new) image
      → AfterAtLeast start (if is_done then length accepted else 0) accepted image

-- the same of a call that may not have opened the store
abbrev pub ChangeSurvives : {D : Type 0} → DiskModel D → D → Change
    → Result D (D × StoreToolFault) → Type 0
ChangeSurvives model old change (Ok new) = KeepsChange model old change new true
ChangeSurvives model old change (Err (new, Refused fault)) =
    KeepsChange model old change new false
ChangeSurvives model old change (Err (new, fault)) =
    LeavesOnly model old new (MeantAtEntry (model.folder old))

-- ---- a new store

-- There was no `store.yaml`. Now it is a base of the empty state, and whatever a crash leaves means that state.
pub record MakesStore {D : Type 0} (folder : D → Folder) (old new : D) : Type 0 where
  pub missing : bytes_under (folder old) Store ≡ None
  pub reads : bytes_under (folder new) Store ≡ Some (base_bytes empty_state)
  pub images : AllImagesMean (folder new) empty_state

-- No store could be opened where there was none: memory ran out, or a call failed. There is no `store.yaml`, or a whole
-- base of the empty state.
pub record CannotStart {D : Type 0} (model : DiskModel D) (old new : D) (fault : OpenFault) : Type 0 where
  pub is : model.honest → (fault ≡ OpenFaults.OutOfMemory) ⊎ (fault ≡ OpenFaults.Device)
  pub cause : fault ≡ OpenFaults.Device → HasFailed (model.failure_count old) (model.failure_count new)
  pub old_or_base : model.honest
      → IsOldOrBase (several_waited (model.folder old)) (bytes_under (model.folder old) Store)
      (bytes_under (model.folder new) Store)

-- Why no store was made: there is a `store.yaml`, and nothing has changed; or it could not be opened.
abbrev pub CannotMake : {D : Type 0} → DiskModel D → D → D → StoreToolFault → Type 0
CannotMake model old new (Open fault) = CannotStart model old new fault
CannotMake model old new StoreExists =
    (model.honest → bytes_under (model.folder old) Store ≢ None) × (model.honest → model.folder new ≡ model.folder old)
CannotMake model old new fault = ⊥
