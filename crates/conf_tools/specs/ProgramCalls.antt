-- Calls of the program on the store of one folder, one after the other, and what the folder keeps of their commands.
use Rattle.std.specs.Prelude.{◌≡◌, ◌≤◌, ℕ, List, [], ◌∷◌, length, take, Result, Ok, Err}
use Rattle.conf_tools.specs.Prelude.{Image, IsImage, DiskModel, LeavesOnly, Command, Contents, after, ImageMeans, MeantAtEntry, Tally}
use Rattle.conf_tools.specs.{Prelude.Streams, Changes.ChangeSurvives, Stores.{SurvivesCrashes, Work}, declared.changes.Change.Change}
use Rattle.conf_tools.specs.declared.stores.{Grouping.Grouping, StoreToolFault.{StoreToolFault, TheVariants.{Session, Refused}}}
use Rattle.{conf_tools.specs.Exports.{disk_back, disk_handed_back}, conf_store.specs.Lives.all_commands}
use Rattle.conf_session.specs.Handings.{Handing, Handings, handed_bytes, moment_after, taken_in}

-- ---- one call

-- A call on a disk that is honest, with what its clause `crashes` says: of `run_store`, of `change_store`, or of
-- `export_text` or `make_store`. A call that was cut off is given by what it would have returned: an image that it left
-- is one that this clause allows.
pub data Call {D : Type 0} (model : DiskModel D) : Type 0 where
  running : (io : Streams) (handings : Handings) (grouping : Grouping) (old : D)
      (result : Result (D × Tally) (D × StoreToolFault))
      (crashes : SurvivesCrashes model io handings grouping old result)
      → Call model
  changing : (change : Change) (old : D) (result : Result D (D × StoreToolFault))
      (crashes : ChangeSurvives model old change result) → Call model
  exporting : (old new : D)
      (crashes : LeavesOnly model old new (MeantAtEntry (model.folder old)))
      → Call model

-- Whether a call returned, or was cut off by a crash, or by the end of its process: then the sink had noted so many times
-- that it took bytes of answers.
pub data Ending : Type 0 where
  returned : Ending
  cut_off : (noted : ℕ) → Ending

-- a number, if a call returned
abbrev pub if_returned : Ending → ℕ → ℕ
if_returned returned number = number
if_returned (cut_off noted) number = 0

module _ {D : Type 0} (model : DiskModel D) where
  -- the disk before a call
  abbrev pub disk_before : Call model → D
  disk_before (running io handings grouping old result crashes) = old
  disk_before (changing change old result crashes) = old
  disk_before (exporting old new crashes) = old

  -- the disk after a call
  abbrev pub disk_behind : Call model → D
  disk_behind (running io handings grouping old result crashes) = disk_back result
  disk_behind (changing change old result crashes) = disk_handed_back result
  disk_behind (exporting old new crashes) = new

  -- the commands that a session accepted
  abbrev pub accepted_by_run : (io : Streams) (handings : Handings) (grouping : Grouping) (old : D)
      (result : Result (D × Tally) (D × StoreToolFault))
      → SurvivesCrashes model io handings grouping old result → List Command
  accepted_by_run io handings grouping old (Ok (new, tally)) keeps = keeps.work.accepted
  accepted_by_run io handings grouping old (Err (new, Session fault)) keeps = keeps.work.accepted
  accepted_by_run io handings grouping old (Err (new, fault)) refused = []

  -- how many of them a session has answered that ended so: where it was cut off, those whose answers the bytes begin that
  -- the sink had taken
  abbrev pub answered_of : (handings : Handings) → Ending → Work → ℕ
  answered_of handings returned work = work.answered
  answered_of handings (cut_off noted) work = work.within (handed_bytes (take noted (taken_in handings)))

  -- how many of them it answered
  abbrev pub answered_by_run : (ending : Ending) (io : Streams) (handings : Handings) (grouping : Grouping) (old : D)
      (result : Result (D × Tally) (D × StoreToolFault))
      → SurvivesCrashes model io handings grouping old result → ℕ
  answered_by_run ending io handings grouping old (Ok (new, tally)) keeps = answered_of handings ending keeps.work
  answered_by_run ending io handings grouping old (Err (new, Session fault)) keeps =
      answered_of handings ending keeps.work
  answered_by_run ending io handings grouping old (Err (new, fault)) refused = 0

  -- the commands that a change accepted, one at most
  abbrev pub accepted_by_change : (change : Change) (old : D) (result : Result D (D × StoreToolFault))
      → ChangeSurvives model old change result → List Command
  accepted_by_change change old (Ok new) keeps = keeps.accepted
  accepted_by_change change old (Err (new, Refused fault)) keeps = keeps.accepted
  accepted_by_change change old (Err (new, fault)) refused = []

  -- how many of them are made once it has returned
  abbrev pub made_by_change : (ending : Ending) (change : Change) (old : D) (result : Result D (D × StoreToolFault))
      → ChangeSurvives model old change result → ℕ
  made_by_change ending change old (Ok new) keeps = if_returned ending (length keeps.accepted)
  made_by_change ending change old (Err r) refused = 0

  -- the commands that a call accepted
  abbrev pub accepted : Call model → List Command
  accepted (running io handings grouping old result crashes) =
      accepted_by_run io handings grouping old result crashes
  accepted (changing change old result crashes) = accepted_by_change change old result crashes
  accepted (exporting old new crashes) = []

  -- how many of them it answered
  abbrev pub answered : Ending → Call model → ℕ
  answered ending (running io handings grouping old result crashes) =
      answered_by_run ending io handings grouping old result crashes
  answered ending (changing change old result crashes) = made_by_change ending change old result crashes
  answered ending (exporting old new crashes) = 0

  -- what the sink noted during a call: nothing, where the store could not be opened
  abbrev pub noted_in : Call model → List Handing
  noted_in (running io handings grouping old (Ok done) crashes) = taken_in handings
  noted_in (running io handings grouping old (Err (new, Session fault)) crashes) = taken_in handings
  noted_in call = []

  -- What a call leaves that ended so: what a crash may leave once it returned, or at any moment of it since the sink noted
  -- so many of these.
  abbrev pub MayLeave : Ending → List Handing → D → D → Image → Type 0
  MayLeave returned handings old new image = IsImage (model.folder new) image
  MayLeave (cut_off noted) handings old new image = model.left new (moment_after (model.moment old) handings noted) image

-- ---- calls one after the other

-- a call, and how it ended
pub record Event {D : Type 0} (model : DiskModel D) : Type 0 where
  pub call : Call model
  pub ending : Ending

module _ {D : Type 0} (model : DiskModel D) where
  -- The first call finds the folder of the disk `first`. Each next one finds a folder of which a crash leaves no more
  -- than what the call before may have left, and so does the disk `last`.
  abbrev pub AreCalls : D → List (Event model) → D → Type 0
  AreCalls first [] last = last ≡ first
  AreCalls first (event ∷ events) last =
      (disk_before model event.call ≡ first) × (next : D)
      × ((image : Image) → IsImage (model.folder next) image
      → MayLeave model event.ending (noted_in model event.call) first (disk_behind model event.call) image)
      × AreCalls next events last

-- ---- what they keep

-- the first of the commands that were accepted, with all that were answered
pub record KeptOf (accepted : List Command) (answered : ℕ) (kept : List Command) : Type 0 where
  pub count : ℕ
  pub are : kept ≡ take count accepted
  pub all_answered : answered ≤ count

module _ {D : Type 0} (model : DiskModel D) where
  abbrev pub EachKept : List (Event model) → List (List Command) → Type 0
  EachKept [] [] = Unit {0}
  EachKept [] (kept ∷ others) = ⊥
  EachKept (event ∷ events) [] = ⊥
  EachKept (event ∷ events) (kept ∷ others) =
      KeptOf (accepted model event.call) (answered model event.ending event.call) kept
      × EachKept events others

-- ---- what each call keeps

-- each image that a crash leaves of the folder means a state; the states may differ
abbrev pub EachMeans : {D : Type 0} → DiskModel D → D → Type 0
EachMeans model disk = (image : Image) → IsImage (model.folder disk) image → (state : Contents) × ImageMeans image state

-- a state that an image means, which a crash leaves of the folder
pub record MeantBy {D : Type 0} (model : DiskModel D) (disk : D) (state : Contents) : Type 0 where
  pub entry : Image
  pub is : IsImage (model.folder disk) entry
  pub means : ImageMeans entry state

module _ {D : Type 0} (model : DiskModel D) where
  -- the image means what was kept of one call makes of a state that the folder before the call might mean
  pub record HoldsOne (event : Event model) (image : Image) : Type 0 where
    pub start : Contents
    pub began : MeantBy model (disk_before model event.call) start
    pub kept : List Command
    pub of : KeptOf (accepted model event.call) (answered model event.ending event.call) kept
    pub state : Contents
    pub leads : after start kept ≡ Ok state
    pub means : ImageMeans image state

  -- where each image of the folder before a call means a state, each image that the call may leave holds what it keeps
  abbrev pub CallHolds : Type 0
  CallHolds = (event : Event model) → EachMeans model (disk_before model event.call)
      → (image : Image)
      → MayLeave model event.ending (noted_in model event.call) (disk_before model event.call)
      (disk_behind model event.call) image
      → HoldsOne event image

  -- the image means what was kept of all calls makes of a state that the folder before them might mean
  pub record Holds (first : D) (events : List (Event model)) (image : Image) : Type 0 where
    pub start : Contents
    pub began : MeantBy model first start
    pub kept : List (List Command)
    pub each : EachKept model events kept
    pub state : Contents
    pub leads : after start (all_commands kept) ≡ Ok state
    pub means : ImageMeans image state

  -- where each image of the first folder means a state, each image of the last one holds what was kept
  abbrev pub CallsHold : Type 0
  CallsHold = (first last : D) (events : List (Event model)) → EachMeans model first → AreCalls model first events last
      → (image : Image) → IsImage (model.folder last) image → Holds first events image
