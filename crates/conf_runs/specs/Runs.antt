-- Runs of the program, one after the other, and what the store in one folder keeps of their commands.
use Rattle.std.specs.Prelude.{◌≡◌, ◌≢◌, ◌≤◌, ℕ, Bool, true, false, List, [], ◌∷◌, length, take, Option, None, Some, Result, Ok, Err, IfOk}
use Rattle.std.{specs.Borrow.Bor, proofs.Common.{inl, inr}}
use Rattle.{conf_disk.specs.{Image.Image, Models.DiskModel}, conf_history.specs.Copies.{BacksUp, LeavesOldOrCopy, ReadsCopy}}
use Rattle.conf_history.specs.{Copies.disk_handed_back as copied_disk, Histories.ReadsSurvey, Salvages.{LeavesOldOrSaved, Saves}}
use Rattle.conf_history.specs.{Salvages.disk_of as saved_disk, declared.{fault.SalvageFault.SalvageFault, survey.Findings.Findings}}
use Rattle.{conf_state.specs.{Commands.Command, States.Contents, Steps.after}, conf_store.specs.Meaning.{ImageMeans, empty_state}}
use Rattle.conf_words.specs.declared.invocation.{Conditions.Conditions, Invocation.{Invocation, TheVariants.{Init, Import, Set, Alter}}}
use Rattle.conf_words.specs.declared.invocation.{Invocation.TheVariants.{Batch, Checkpoint, Run, Export, Salvage, Backup}, Root.Root}
use Rattle.{conf_words.specs.declared.invocation.{TreeForm.TreeForm, Target.Target}, conf_tools.specs.Asking.AskedConditions}
use Rattle.conf_tools.specs.{Backups.{BacksUpFound, BacksUpInFolder}, Changes.Performs as ChangePerforms, Edits.placed_or_not}
use Rattle.conf_tools.specs.{Exports.{disk_back, disk_handed_back}, Keeping.SalvagesTo, Batches.counted_alone, OnStores.DoesOnStores}
use Rattle.conf_tools.specs.{OnStores.{PerformsOnStores, ReadsInFolder}, Performs.{BatchesRead, ChangesAt, ChangesAtTarget, ImportsRead}}
use Rattle.conf_tools.specs.{Performs.{access_of, grouping_of}, ProgramCalls.{Call, Ending as CallEnding, accepted, answered, changing}}
use Rattle.conf_tools.specs.{ProgramCalls.{disk_before, disk_behind, exporting, noted_in, running}, StoreWords.{Condition, ChangesInFolder}}
use Rattle.conf_tools.specs.{StoreWords.{Inits, MakesChange, MakesInFolder, RunsOnFolder, SavesFound, SavesInFolder}, Tools.Taken}
use Rattle.conf_tools.specs.{Worlds.{Around, WorldModel}, declared.{changes.{Action.Action, Change.Change}, program.Status.Status}}
use Rattle.conf_tools.specs.declared.{program.Status.TheVariants.Done, reading_fault.ReadingFault.ReadingFault, stores.Grouping.Grouping}
use Rattle.conf_tools.specs.{declared.{texts.ToolFault.ToolFault, world.Access.{Access, TheVariants.Changing}}, EndOfRun.EndOfRun as Ended}
use Rattle.{conf_runs.specs.Folders.{HandsOutNone, KeepsFolders}, conf_session.specs.Handings.{Handing, handings_of, moment_after}}
use Rattle.{conf_session.specs.Streams.streams_of, yaml_data.specs.declared.tree.Tree.Tree as AboutTree}
use Rattle.conf_tools.specs.ProgramCalls as call
use Rattle.conf_tools.specs.declared.changes.Change.TheVariants as change

-- ---- the folder of a run

-- the folder whose disk a run takes, if its words name one
abbrev pub folder_of : Invocation → Option (List ℕ)
folder_of (Init folder) = Some folder.now
folder_of (Import asked about reporting) = Some asked.folder.now
folder_of (Set target put about reporting) = Some target.folder.now
folder_of (Alter target alteration about) = Some target.folder.now
folder_of (Batch asked about reporting) = Some asked.folder.now
folder_of (Checkpoint folder) = Some folder.now
folder_of (Run folder grouping) = Some folder.now
folder_of (Export folder name form) = Some folder.now
folder_of (Salvage folder new keep_dropped) = Some new.now
folder_of (Backup folder new) = Some new.now
folder_of invocation = None

-- whether the words make a store of what another one's file says
abbrev pub makes_new : Invocation → Bool
makes_new (Salvage folder new keep_dropped) = true
makes_new (Backup folder new) = true
makes_new invocation = false

module _ {W D F P : Type 0} (world : WorldModel W D F P) (disk : DiskModel D) where
  -- Whether a run is on the store in the folder at a path, or makes one there of what another one says, in a world that
  -- hands out no disk for it that has one.
  pub data Where (path : List ℕ) (invocation : Invocation) : Type 0 where
    here : folder_of invocation ≡ Some path → makes_new invocation ≡ false → Where path invocation
    anew : folder_of invocation ≡ Some path → makes_new invocation ≡ true → HandsOutNone world disk → Where path invocation
    elsewhere : folder_of invocation ≢ Some path → Where path invocation

-- ---- the call that a run makes on the disk of its folder

-- of an honest disk, as the relations of the words have it
module _ {W D F P : Type 0} (world : WorldModel W D F P) (disk : DiskModel D) (honest : disk.honest) where
  abbrev pub made_in : {folder : List ℕ} {old new : W} {end : Ended}
      → MakesInFolder world disk folder old new end → Option (Call disk)
  made_in (inl cannot) = None
  made_in (inr makes) = Some (exporting makes.first (disk_handed_back makes.result) (makes.survives honest))

  abbrev pub initialised : {folder : List ℕ} {old new : W} {end : Ended}
      → Inits world disk folder old new end → Option (Call disk)
  initialised (inl cannot) = None
  initialised (inr makes) = made_in makes.then

  abbrev pub changed_in : {access : Access} {folder : List ℕ} {conditions : List Condition} (change : Change) {old new : W}
      {end : Ended} → ChangesInFolder world disk access folder conditions change old new end → Option (Call disk)
  changed_in change (inl cannot) = None
  changed_in change (inr changes) = Some (changing change changes.first changes.result (changes.survives honest))

  abbrev pub changed_if : (access : Access) (folder : List ℕ) (asked : AskedConditions) (change : Change) (old new : W)
      (end : Ended) → MakesChange world disk access folder asked change old new end → Option (Call disk)
  changed_if access folder (Ok conditions) change old new end makes = changed_in change makes
  changed_if access folder (Err fault) change old new end makes = None

  abbrev pub asked_for : (wanted : Conditions) (about : Option AboutTree) (access : Access) (folder name path : List ℕ)
      (action : Result Action ToolFault) (old new : W) (end : Ended)
      → ChangesAt world disk wanted about access folder name path action old new end → Option (Call disk)
  asked_for wanted about access folder name path (Ok action) old new end does =
      changed_if access folder does.conditions (change.Act action about) old new end does.makes
  asked_for wanted about access folder name path (Err fault) old new end does = None

  abbrev pub asked_at : (about : Option AboutTree) (target : Target) (action : Result Action ToolFault) (old new : W) (end : Ended)
      → ChangesAtTarget world disk about target action old new end → Option (Call disk)
  asked_at about target action old new end does =
      asked_for target.conditions about Changing target.folder.now target.name.now target.pointer.now action old new end does

  abbrev pub imported : (wanted : Conditions) (about : Option AboutTree) (root : Root) (access : Access) (folder name : List ℕ)
      (read : Taken) (old new : W) (end : Ended)
      → ImportsRead world disk wanted about root access folder name read old new end → Option (Call disk)
  imported wanted about root access folder name (Ok bytes) old new end does =
      asked_for wanted about access folder name [] does.action old new does.made does.changes
  imported wanted about root access folder name (Err fault) old new end does = None

  abbrev pub batched : (about : Option AboutTree) (folder : List ℕ) (count : Option ℕ) (read : Taken) (old new : W) (end : Ended)
      → BatchesRead world disk about folder count read old new end → Option (Call disk)
  batched about folder count (Ok bytes) old new end does =
      asked_for (counted_alone count) about Changing folder [] [] does.action old new end does.changes
  batched about folder count (Err fault) old new end does = None

  abbrev pub ran_in : {folder : List ℕ} (grouping : Grouping) (old new : Around W) {end : Ended}
      → RunsOnFolder world disk folder grouping old new end → Option (Call disk)
  ran_in grouping old new (inl cannot) = None
  ran_in grouping old new (inr runs) =
      Some (running (streams_of old.input new.input old.output new.output) (handings_of old.handings new.handings) grouping
      runs.first runs.result (runs.survives honest))

  abbrev pub read_from : {folder : List ℕ} {old new : W} → ReadsInFolder world disk folder old new → Option (Call disk)
  read_from (inl cannot) = None
  read_from (inr reads) = Some (exporting reads.first reads.last (reads.survives honest))

module _ {W D F P : Type 0} (world : WorldModel W D F P) (disk : DiskModel D) (remaining : F → Option (List ℕ))
    (honest : disk.honest) where
  -- the call of a run, if the disk was handed out to it
  abbrev pub call_of : (invocation : Invocation) (old new : Around W) (end : Ended)
      → DoesOnStores world disk remaining invocation old new end → Option (Call disk)
  call_of (Init folder) old new end does = initialised world disk honest does.0
  call_of (Import asked about reporting) old new end does =
      imported world disk honest asked.conditions about asked.root (access_of asked.missing) asked.folder.now asked.name.now
      does.read does.seen new.world end does.imports
  call_of (Set target put about reporting) old new end does =
      asked_at world disk honest about target (placed_or_not put.placing does.0.action) does.0.seen new.world end does.0.changes
  call_of (Alter target alteration about) old new end does =
      asked_at world disk honest about target does.0.action old.world new.world end does.0.changes
  call_of (Batch asked about reporting) old new end does =
      batched world disk honest about asked.folder.now asked.count does.read does.seen new.world end does.makes
  call_of (Checkpoint folder) old new end does = changed_in world disk honest change.Checkpoint does.0
  call_of (Run folder grouping) old new end does = ran_in world disk honest (grouping_of grouping) old new does
  call_of (Export folder name form) old new end does = read_from world disk honest does
  call_of invocation old new end does = None

-- ---- a new store

module _ {D : Type 0} (disk : DiskModel D) where
  -- What a run does on the disk of its folder: a call on the store in it, or it makes a store there, with the base and
  -- the records that a file gave, or of what stands before the first bad piece of one.
  pub data Deed : Type 0 where
    calls : (call : Call disk) → Deed
    copies : (several : Bool) (given left : Option (List ℕ)) (first : D) (result : Result D (D × SalvageFault))
        → IfOk result (λ made. BacksUp several given left (disk.folder first) (disk.folder made))
        → LeavesOldOrCopy several disk given left first (copied_disk result) → Deed
    saves : (several : Bool) (given left : Option (List ℕ)) (first : D) (result : Result (D × Findings) (D × SalvageFault))
        → IfOk result (λ saved. Saves several given left (disk.folder first) (disk.folder saved.0) saved.1)
        → LeavesOldOrSaved several disk given left first (saved_disk result) → Deed

  -- the disk before it
  abbrev pub first_disk : Deed → D
  first_disk (calls call) = disk_before disk call
  first_disk (copies several given left first result made survives) = first
  first_disk (saves several given left first result made survives) = first

  -- the disk after it
  abbrev pub last_disk : Deed → D
  last_disk (calls call) = disk_behind disk call
  last_disk (copies several given left first result made survives) = copied_disk result
  last_disk (saves several given left first result made survives) = saved_disk result

  -- what the output noted during it
  abbrev pub handings_in : Deed → List Handing
  handings_in (calls call) = noted_in disk call
  handings_in deed = []

  -- a call, if there is one
  abbrev pub own : Option (Call disk) → Option Deed
  own None = None
  own (Some call) = Some (calls call)

module _ {W D F P : Type 0} (world : WorldModel W D F P) (disk : DiskModel D) (remaining : F → Option (List ℕ))
    (honest : disk.honest) where
  abbrev pub copied_in : (folder : List ℕ) (several : Bool) (given : Option (List ℕ)) (old new : W) (end : Ended)
      → BacksUpInFolder world disk folder several given old new end → Option (Deed disk)
  copied_in folder several given old new end (inl cannot) = None
  copied_in folder several given old new end (inr makes) =
      Some (copies several given makes.left makes.first makes.result (makes.made honest) (makes.survives honest))

  abbrev pub copied_of : (folder : List ℕ) (file : Result F ReadingFault) (old new : W) (end : Ended)
      → BacksUpFound world disk remaining folder file old new end → Option (Deed disk)
  copied_of folder (Ok file) old new end makes = copied_in folder (world.several file) (remaining file) old new end makes
  copied_of folder (Err fault) old new end makes = None

  abbrev pub saved_in : (folder : List ℕ) (several : Bool) (given : Option (List ℕ)) (old new : W) (held written : Option (List ℕ))
      (end : Ended) → SavesInFolder world disk folder several given old new held written end → Option (Deed disk)
  saved_in folder several given old new held written end (inl cannot) = None
  saved_in folder several given old new held written end (inr saving) =
      Some (saves several given saving.left saving.first saving.result (saving.saved honest) (saving.survives honest))

  abbrev pub saved_of : (folder : List ℕ) (file : Result F ReadingFault) (old new : W) (held written : Option (List ℕ))
      (end : Ended) → SavesFound world disk remaining folder file old new held written end → Option (Deed disk)
  saved_of folder (Ok file) old new held written end saving =
      saved_in folder (world.several file) (remaining file) old new held written end saving
  saved_of folder (Err fault) old new held written end saving = None

  -- the same of a salvage, with a path for what an opening drops, or with none
  abbrev pub saved_to : (folder : List ℕ) (keep_dropped : Option (Bor (List ℕ))) (new_folder : List ℕ) (old new : W)
      (held written : Option (List ℕ)) (end : Ended)
      → SalvagesTo world disk remaining folder keep_dropped new_folder old new held written end → Option (Deed disk)
  saved_to folder None new_folder old new held written end does =
      saved_of new_folder does.file does.found new held written end does.saves
  saved_to folder (Some path) new_folder old new held written end (inl unkept) = None
  saved_to folder (Some path) new_folder old new held written end (inr does) =
      saved_in new_folder does.several (Some does.bytes) does.found new held written end does.saves

  -- how a run makes a new store, if the disk was handed out to it
  abbrev pub made_new : (invocation : Invocation) (old new : Around W) (end : Ended)
      → DoesOnStores world disk remaining invocation old new end → Option (Deed disk)
  made_new (Salvage folder new_folder keep_dropped) old new end does =
      saved_to folder.now keep_dropped new_folder.now old.world new.world old.output new.output end does.0
  made_new (Backup folder new_folder) old new end does =
      copied_of new_folder.now does.0.file does.0.found new.world end does.0.makes
  made_new invocation old new end does = None

-- ---- a run

-- Whether a run returned, was cut off while it had the disk, by a crash or by the end of its process, or had none yet. Of one
-- that was cut off, how many handings of answers its output had noted by then.
pub data Ending : Type 0 where
  returned : Ending
  cut_off : (noted : ℕ) → Ending
  not_begun : Ending

-- The same of its call: one that never began is as one that was not made.
abbrev pub ending_of_call : Ending → CallEnding
ending_of_call returned = call.returned
ending_of_call (cut_off noted) = call.cut_off noted
ending_of_call not_begun = call.cut_off 0

-- What is kept of a run in the folder: commands that it performed there, or the whole state of a store that it made.
pub data Kept : Type 0 where
  commands : List Command → Kept
  new_store : Contents → Kept

-- What is kept of runs leads from one state to another. A store is made only where there was none, which means the empty
-- state.
abbrev pub Leads : Contents → List Kept → Contents → Type 0
Leads from [] to = to ≡ from
Leads from (commands kept ∷ others) to = (between : Contents) × (after from kept ≡ Ok between) × Leads between others to
Leads from (new_store state ∷ others) to = (from ≡ empty_state) × Leads state others to

-- a number, if that is the status
abbrev pub if_done : Status → ℕ → ℕ
if_done Done number = number
if_done status number = 0

module _ {W D F P : Type 0} (world : WorldModel W D F P) (disk : DiskModel D) (remaining : F → Option (List ℕ))
    (honest : disk.honest) (leaves : W → List ℕ → Image → Type 0) (path : List ℕ) where
  -- A run of the program, with what the clause `stores` of `perform` says of it. One that was cut off is given by what it
  -- would have done.
  pub record Event : Type 0 where
    pub invocation : Invocation
    pub place : Where world disk path invocation
    pub old : Around W
    pub new : Around W
    pub status : Status
    pub does : PerformsOnStores world disk remaining invocation old new status
    pub ending : Ending

  -- what it does on the disk of the folder
  abbrev pub deed_at : (invocation : Invocation) → Where world disk path invocation → Ending → (old new : Around W)
      (end : Ended) → DoesOnStores world disk remaining invocation old new end → Option (Deed disk)
  deed_at invocation place not_begun old new end does = None
  deed_at invocation (elsewhere is_other) ending old new end does = None
  deed_at invocation (here is not_new) ending old new end does =
      own disk (call_of world disk remaining honest invocation old new end does)
  deed_at invocation (anew is is_new none) ending old new end does =
      made_new world disk remaining honest invocation old new end does

  abbrev pub deed_in : Event → Option (Deed disk)
  deed_in event =
      deed_at event.invocation event.place event.ending event.old event.new event.does.ending event.does.does

  -- What a crash leaves of the folder after a run that returned; of one that was cut off, at any moment of its deed since
  -- its output noted so many handings. A run that did nothing there leaves no more than was there.
  abbrev pub LeavesAfter : Ending → Option (Deed disk) → (old new : W) → Image → Type 0
  LeavesAfter returned deed old new image = leaves new path image
  LeavesAfter (cut_off noted) (Some deed) old new image =
      disk.left (last_disk disk deed) (moment_after (disk.moment (first_disk disk deed)) (handings_in disk deed) noted) image
  LeavesAfter ending deed old new image = leaves old path image

  abbrev pub MayLeave : Event → Image → Type 0
  MayLeave event image = LeavesAfter event.ending (deed_in event) event.old.world event.new.world image

  -- A crash leaves no more of the folder that the first run finds than `before` says, of the folder that each next one
  -- finds no more than the run before it may leave, and in the end no more than `behind` says.
  abbrev pub AreRuns : (Image → Type 0) → List Event → (Image → Type 0) → Type 0
  AreRuns before [] behind = (image : Image) → behind image → before image
  AreRuns before (event ∷ events) behind =
      ((image : Image) → leaves event.old.world path image → before image) × AreRuns (MayLeave event) events behind

  -- ---- what they keep

  -- the commands that a run accepted
  abbrev pub accepted_in : Option (Deed disk) → List Command
  accepted_in (Some (calls call)) = accepted disk call
  accepted_in deed = []

  -- How many of them it acknowledged, the first ones: those that a session answered, and the command of a change that
  -- returned with the status Done. A session that was cut off answered those whose answers its output had begun to take.
  abbrev pub acknowledged : Ending → Status → Option (Deed disk) → ℕ
  acknowledged ending status (Some (calls (running io handings grouping old result crashes))) =
      answered disk (ending_of_call ending) (running io handings grouping old result crashes)
  acknowledged returned status (Some (calls (changing change old result crashes))) =
      if_done status (length (accepted disk (changing change old result crashes)))
  acknowledged ending status deed = 0

  -- Where the status of a change was Done, what was accepted is what the change performs on the state that the file meant.
  -- Where the status of a backup or a salvage was Done, its store is kept, and not what was there.
  abbrev pub IsMade : Status → Option (Deed disk) → Type 0
  IsMade status (Some (calls (changing change old (Ok new) crashes))) =
      status ≡ Done → ChangePerforms crashes.start change crashes.accepted
  IsMade status (Some (calls (changing change old (Err refused) crashes))) = status ≢ Done
  IsMade status (Some (copies several given left first result made survives)) = status ≢ Done
  IsMade status (Some (saves several given left first result made survives)) = status ≢ Done
  IsMade status deed = Unit {0}

  -- the first of the commands that a run accepted, with all that it acknowledged
  pub record KeepsCommands (event : Event) (kept : List Command) : Type 0 where
    pub count : ℕ
    pub are : kept ≡ take count (accepted_in (deed_in event))
    pub all_acknowledged : acknowledged event.ending event.status (deed_in event) ≤ count
    pub is_made : event.ending ≡ returned → IsMade event.status (deed_in event)

  -- a state that the base and the records mean that a file gave
  pub record IsRead (several : Bool) (given left : Option (List ℕ)) (state : Contents) : Type 0 where
    pub copy : List ℕ
    pub reads : ReadsCopy several given left copy
    pub is : state ≡ reads.s

  -- the state that stands before the first bad piece of what a file gave
  pub record IsSurveyed (several : Bool) (given left : Option (List ℕ)) (state : Contents) : Type 0 where
    pub findings : Findings
    pub reads : ReadsSurvey several given left state findings

  -- the store that a run made has this state
  abbrev pub MakesStore : Option (Deed disk) → Contents → Type 0
  MakesStore (Some (copies several given left first result made survives)) state = IsRead several given left state
  MakesStore (Some (saves several given left first result made survives)) state = IsSurveyed several given left state
  MakesStore deed state = ⊥

  abbrev pub KeptOf : Event → Kept → Type 0
  KeptOf event (commands kept) = KeepsCommands event kept
  KeptOf event (new_store state) = MakesStore (deed_in event) state

  abbrev pub EachKept : List Event → List Kept → Type 0
  EachKept [] [] = Unit {0}
  EachKept [] (kept ∷ others) = ⊥
  EachKept (event ∷ events) [] = ⊥
  EachKept (event ∷ events) (kept ∷ others) = KeptOf event kept × EachKept events others

  -- a state that an image means, which a crash leaves of the folder at a moment
  pub record MeantBy (now : W) (state : Contents) : Type 0 where
    pub entry : Image
    pub is : leaves now path entry
    pub means : ImageMeans entry state

  -- the image means what was kept of each run makes of a state that the folder might mean before them
  pub record Holds (first : W) (events : List Event) (image : Image) : Type 0 where
    pub start : Contents
    pub began : MeantBy first start
    pub kept : List Kept
    pub each : EachKept events kept
    pub state : Contents
    pub leads : Leads start kept state
    pub means : ImageMeans image state

  -- Where each image of the folder means a state before the runs, each image of it holds after them what was kept. The
  -- states of the images may differ.
  abbrev pub RunsHold : Type 0
  RunsHold = KeepsFolders world disk leaves → (first last : W) (events : List Event)
      → ((image : Image) → leaves first path image → (state : Contents) × ImageMeans image state)
      → AreRuns (leaves first path) events (leaves last path)
      → (image : Image) → leaves last path image → Holds first events image
