-- What the words on a store do: which disk or file the world hands out, what is done with it, and that it is given back.
use Rattle.std.specs.Prelude.{◌≡◌, ◌⊎◌, ℕ, Bool, List, Option, Some, None, Result, Ok, Err, IfOk, IfErr, OnOk, String, string_bytes}
use Rattle.std.specs.Borrow.{Bor}
use Rattle.conf_tools.specs.Prelude.{Global, chars, Appends, DiskModel, LeavesOnly, FolderFault, HistoryFault, NotAStore, SalvageFault}
use Rattle.conf_tools.specs.Prelude.{LogRequest, Findings, Tally, MeantAtEntry, MissingValue, NamesForm, Span, TreeForm, ValueForm}
use Rattle.conf_tools.specs.{Prelude.streams_of, declared.reading_fault.ReadingFault.{ReadingFault, TheVariants.Folder as ReadingFolder}}
use Rattle.conf_tools.specs.declared.{reading_fault.ReadingFault.TheVariants.{History, Salvage}, stores.StoreToolFault.StoreToolFault}
use Rattle.conf_tools.specs.declared.{stores.{StoreToolFault.TheVariants.Folder as InFolder, Grouping.Grouping}, diffs.Sameness.Sameness}
use Rattle.conf_tools.specs.declared.{changes.Change.Change, outcome.Ending.{Ending, TheVariants.Of}, reads.Presence.Presence}
use Rattle.conf_tools.specs.declared.{surveys.Soundness.Soundness, world.Access.{Access, TheVariants.{Making, New, Reading}}}
use Rattle.conf_tools.specs.{declared.{read_words.Question.Question, texts.ToolFault.TheVariants.Output}, Diffs.{RefusesDiff, WritesDiff}}
use Rattle.conf_tools.specs.{Diffs.name_asked, Asking.AskedConditions, Changes.{CannotChange, CannotMake, ChangeSurvives, ChangesOn}}
use Rattle.conf_tools.specs.{Changes.MakesStore, Endings.{EndsSurvey, EndsWith, ending_after_diff, ending_after_log, ending_after_presence}}
use Rattle.conf_tools.specs.{Endings.{ending_after_reading, ending_at_end}, Exports.{HasText, LacksText, disk_back, disk_handed_back}}
use Rattle.conf_tools.specs.{Parts.WritesPart, Reads.{FindsPresence, RefusesNames, RefusesPresence, RefusesValues, WritesNames}}
use Rattle.conf_tools.specs.{Reads.{WritesValues, pointers_of}, Stores.{RunsOn, SurvivesCrashes}, Surveys.{CannotWrite, RefusesWriting}}
use Rattle.conf_tools.specs.{Surveys.{WritesSurvey, findings_text}, Worlds.{Around, LeavesStreams, WorldModel}}
use Rattle.{conf_session.specs.Handings.handings_of, conf_history.specs.{Logs.{FailsToLog, LogsAll}, Salvages.LeavesOldOrSaved}}
use Rattle.conf_history.specs.Salvages.{RefusesSalvage, Saves, disk_of}
use Rattle.conf_history.specs.declared.fault.SalvageFault.TheVariants.{StoreExists as NewStoreExists}
use Rattle.conf_folder.specs.declared.fault.FolderFault.TheVariants.{NotAStore as TooLongForStore}
use Rattle.conf_tools.specs.declared.outcome.Outcome.TheVariants as outcome
use Rattle.conf_tools.specs.declared.read_words.Question.TheVariants as asks
pub use Rattle.conf_conditions.specs.Conditions.{Condition, conditions_of}

-- the bytes were written whole, or the first of them, and the writer failed
abbrev pub WritesWhole : List ℕ → Option (List ℕ) → Option (List ℕ) → Ending → Type 0
WritesWhole bytes held written ending =
    (Appends held written bytes × (ending ≡ Of outcome.Done))
    ⊎ (WritesPart bytes held written × (ending ≡ Of (outcome.Text Output)))

-- the text was written that an export found, or nothing where it found none
abbrev pub WritesFound : {D : Type 0} → Result (D × String Global) (D × StoreToolFault) → Option (List ℕ) → Option (List ℕ)
    → Ending → Type 0
WritesFound (Ok found) held written ending = WritesWhole (string_bytes found.1) held written ending
WritesFound (Err refused) held written ending = (written ≡ held) × (ending ≡ Of (outcome.Store refused.1))

-- ---- words that take the disk of a folder

module _ {W D F P : Type 0} (world : WorldModel W D F P) (disk : DiskModel D) where
  -- the disk of the folder was not handed out, and that is the fault
  pub record CannotUse (access : Access) (folder : List ℕ) (old new : W) (ending : Ending) : Type 0 where
    pub fault : FolderFault
    pub opens : world.opened access folder old (Err fault) new
    pub ends : ending ≡ Of (outcome.Store (InFolder fault))

  -- An empty store was made on the disk of the folder, or why not; and the disk was given back.
  pub record MakesIn (folder : List ℕ) (old new : W) (ending : Ending) : Type 0 where
    pub first : D
    pub opened : W
    pub opens : world.opened New folder old (Ok first) opened
    pub result : Result D (D × StoreToolFault)
    pub gives_back : world.given_back (disk_handed_back result) opened new
    pub ends : ending ≡ ending_at_end result
    pub made : IfOk result (λ last. disk.honest → MakesStore disk.folder first last)
    pub refused : IfErr result (λ refused. CannotMake disk first refused.0 refused.1)
    pub survives : disk.honest → LeavesOnly disk first (disk_handed_back result)
        (MeantAtEntry (disk.folder first))

  -- the folder was not made, and that is the fault
  pub record CannotMakeFolder (folder : List ℕ) (old new : W) (ending : Ending) : Type 0 where
    pub fault : FolderFault
    pub makes : world.made_folder folder old (Err fault) new
    pub ends : ending ≡ Of (outcome.Store (InFolder fault))

  -- an empty store in a folder
  abbrev pub MakesInFolder : List ℕ → W → W → Ending → Type 0
  MakesInFolder folder old new ending = CannotUse New folder old new ending ⊎ MakesIn folder old new ending

  -- the folder was made, or was there
  pub record MakesFolder (folder : List ℕ) (old new : W) (ending : Ending) : Type 0 where
    pub made : W
    pub makes : world.made_folder folder old (Ok tt) made
    pub then : MakesInFolder folder made new ending

  -- `init`
  abbrev pub Inits : List ℕ → W → W → Ending → Type 0
  Inits folder old new ending = CannotMakeFolder folder old new ending ⊎ MakesFolder folder old new ending

  -- Where the conditions held, the change was made of the store on the disk of the folder, or why not; and the disk was
  -- given back.
  pub record ChangesIn (access : Access) (folder : List ℕ) (conditions : List Condition) (change : Change) (old new : W)
      (ending : Ending) : Type 0 where
    pub first : D
    pub opened : W
    pub opens : world.opened access folder old (Ok first) opened
    pub result : Result D (D × StoreToolFault)
    pub gives_back : world.given_back (disk_handed_back result) opened new
    pub ends : ending ≡ ending_at_end result
    pub made : IfOk result (ChangesOn disk first conditions change)
    pub refused : IfErr result (λ refused. CannotChange disk first conditions change refused.0 refused.1)
    pub survives : disk.honest → ChangeSurvives disk first change result

  -- a change of the store in a folder
  abbrev pub ChangesInFolder : Access → List ℕ → List Condition → Change → W → W → Ending → Type 0
  ChangesInFolder access folder conditions change old new ending =
      CannotUse access folder old new ending ⊎ ChangesIn access folder conditions change old new ending

  -- The same. Where the conditions can't be asked for, no folder is looked at.
  abbrev pub MakesChange : Access → List ℕ → AskedConditions → Change → W → W → Ending → Type 0
  MakesChange access folder (Ok conditions) change old new ending =
      ChangesInFolder access folder (conditions_of conditions.items) change old new ending
  MakesChange access folder (Err fault) change old new ending = (new ≡ old) × EndsWith fault ending

  -- A session ran on the disk of the folder, and the disk was given back.
  pub record RunsIn (folder : List ℕ) (grouping : Grouping) (old new : Around W) (ending : Ending) : Type 0 where
    pub first : D
    pub opened : W
    pub opens : world.opened Making folder old.world (Ok first) opened
    pub result : Result (D × Tally) (D × StoreToolFault)
    pub gives_back : world.given_back (disk_back result) opened new.world
    pub ends : ending ≡ ending_at_end result
    pub runs : RunsOn disk (streams_of old.input new.input old.output new.output) grouping first result
    pub survives : disk.honest
        → SurvivesCrashes disk (streams_of old.input new.input old.output new.output)
        (handings_of old.handings new.handings) grouping first result

  -- the disk was not handed out, and nothing was read or written
  pub record CannotRun (folder : List ℕ) (old new : Around W) (ending : Ending) : Type 0 where
    pub cannot : CannotUse Making folder old.world new.world ending
    pub streams : LeavesStreams old new

  -- `run`
  abbrev pub RunsOnFolder : List ℕ → Grouping → Around W → Around W → Ending → Type 0
  RunsOnFolder folder grouping old new ending =
      CannotRun folder old new ending ⊎ RunsIn folder grouping old new ending

  -- The text of the configuration was found on the disk of the folder, or why not; the disk was given back, and the text
  -- was written.
  pub record ExportsFrom (form : TreeForm) (folder name : List ℕ) (old new : W) (held written : Option (List ℕ)) (ending : Ending)
      : Type 0 where
    pub first : D
    pub opened : W
    pub opens : world.opened Reading folder old (Ok first) opened
    pub result : Result (D × String Global) (D × StoreToolFault)
    pub gives_back : world.given_back (disk_back result) opened new
    pub writes : WritesFound result held written ending
    pub found : IfOk result (λ found. HasText disk form first found.0 (chars name) (string_bytes found.1))
    pub refused : IfErr result (λ refused. LacksText disk first refused.0 (chars name) refused.1)
    pub survives : disk.honest → LeavesOnly disk first (disk_back result)
        (MeantAtEntry (disk.folder first))

  -- the disk was not handed out, and nothing was written
  pub record CannotExport (folder : List ℕ) (old new : W) (held written : Option (List ℕ)) (ending : Ending)
      : Type 0 where
    pub cannot : CannotUse Reading folder old new ending
    pub keeps : written ≡ held

  -- `export`
  abbrev pub ExportsFromFolder : TreeForm → List ℕ → List ℕ → W → W → Option (List ℕ) → Option (List ℕ) → Ending → Type 0
  ExportsFromFolder form folder name old new held written ending =
      CannotExport folder old new held written ending ⊎ ExportsFrom form folder name old new held written ending

-- what stands in the file was written, where a store was made of it
abbrev pub WritesFindings : {D : Type 0} → Result (D × Findings) (D × SalvageFault) → Option (List ℕ) → Option (List ℕ)
    → Ending → Type 0
WritesFindings (Ok saved) held written ending =
    (ended : Result (Unit {0}) ReadingFault) × (ending ≡ ending_after_reading ended)
    × OnOk ended (Appends held written (findings_text saved.1))
    × IfErr ended (CannotWrite (findings_text saved.1) held written)
WritesFindings (Err refused) held written ending =
    (written ≡ held) × (ending ≡ Of (outcome.Reading (Salvage refused.1)))

-- ---- words that read the file of a store

module _ {W D F P : Type 0} (world : WorldModel W D F P) where
  -- the file of the store in a folder was opened, or why not
  abbrev pub OpensFile : List ℕ → W → Result F ReadingFault → W → Type 0
  OpensFile folder old (Ok file) new = world.opened_store folder old (Ok (Some file)) new
  OpensFile folder old (Err (History NotAStore)) new = world.opened_store folder old (Ok None) new
  OpensFile folder old (Err (ReadingFolder fault)) new = world.opened_store folder old (Err fault) new
  OpensFile folder old (Err fault) new = ⊥

module _ {F : Type 0} (several : F → Bool) (remaining : F → Option (List ℕ)) where
  -- What a word on the file writes is as `says` of its note and of what it gives, where it was opened; else nothing is
  -- written.
  abbrev pub SaysOfFile : (Bool → Option (List ℕ) → Option (List ℕ) → Option (List ℕ) → Ending → Type 0)
      → Result F ReadingFault → Option (List ℕ) → Option (List ℕ) → Ending → Type 0
  SaysOfFile says (Ok file) held written ending = says (several file) (remaining file) held written ending
  SaysOfFile says (Err fault) held written ending = (written ≡ held) × (ending ≡ Of (outcome.Reading fault))

module _ {W D F P : Type 0} (world : WorldModel W D F P) (remaining : F → Option (List ℕ)) where
  -- A word on the file of the store in a folder.
  pub record Reads (folder : List ℕ)
      (says : Bool → Option (List ℕ) → Option (List ℕ) → Option (List ℕ) → Ending → Type 0)
      (old new : W) (held written : Option (List ℕ)) (ending : Ending) : Type 0 where
    pub file : Result F ReadingFault
    pub opens : OpensFile world folder old file new
    pub does : SaysOfFile world.several remaining says file held written ending

-- the names that the file holds
pub record SaysNames (at : Option ℕ) (form : NamesForm) (several : Bool) (given held written : Option (List ℕ))
    (ending : Ending) : Type 0 where
  pub result : Result (Unit {0}) ReadingFault
  pub ends : ending ≡ ending_after_reading result
  pub done : OnOk result (WritesNames several given at form held written)
  pub refused : IfErr result (RefusesNames several given at form held written)

-- values that it holds
pub record SaysValues (at : Option ℕ) (name : List ℕ) (pointers : List (List ℕ)) (missing : MissingValue)
    (form : ValueForm) (several : Bool) (given held written : Option (List ℕ)) (ending : Ending) : Type 0 where
  pub result : Result (Unit {0}) ReadingFault
  pub ends : ending ≡ ending_after_reading result
  pub done : OnOk result (WritesValues several given at (chars name) pointers missing form held written)
  pub refused : IfErr result (RefusesValues several given at (chars name) pointers missing form held written)

-- whether something is at a place; nothing is written
pub record SaysPresence (at : Option ℕ) (name pointer : List ℕ) (several : Bool)
    (given held written : Option (List ℕ)) (ending : Ending) : Type 0 where
  pub result : Result Presence ReadingFault
  pub ends : ending ≡ ending_after_presence result
  pub done : IfOk result (FindsPresence several given at (chars name) (chars pointer))
  pub refused : IfErr result (RefusesPresence several given at (chars name) (chars pointer))
  pub keeps : written ≡ held

-- its commands
pub record SaysLog (at : Option ℕ) (request : LogRequest) (several : Bool) (given held written : Option (List ℕ))
    (ending : Ending) : Type 0 where
  pub result : Result (Unit {0}) HistoryFault
  pub ends : ending ≡ ending_after_log result
  pub left : Option (List ℕ)
  pub done : OnOk result (LogsAll several at request given left held written)
  pub refused : IfErr result (FailsToLog several at request given held written)

-- what changed between two states of it
pub record SaysDiff (name : Option (Bor (List ℕ))) (span : Span) (several : Bool) (given held written : Option (List ℕ))
    (ending : Ending) : Type 0 where
  pub result : Result Sameness ReadingFault
  pub ends : ending ≡ ending_after_diff result
  pub done : IfOk result (WritesDiff several given (name_asked name) span held written)
  pub refused : IfErr result (RefusesDiff several given (name_asked name) span held written)

-- what an opening would find in it
pub record SaysSurvey (several : Bool) (given held written : Option (List ℕ)) (ending : Ending) : Type 0 where
  pub result : Result Soundness ReadingFault
  pub ends : EndsSurvey result ending
  pub done : IfOk result (WritesSurvey several given held written)
  pub refused : IfErr result (RefusesWriting several given held written)

-- what is written of a file to answer a question
abbrev pub Says : Question → Bool → Option (List ℕ) → Option (List ℕ) → Option (List ℕ) → Ending → Type 0
Says (asks.Names at form) = SaysNames at form
Says (asks.Values places missing form) =
    SaysValues places.now.at places.now.name.now (pointers_of places.now.pointers.items) missing form
Says (asks.Presence place) = SaysPresence place.at place.name.now place.pointer.now
Says (asks.Log at request) = SaysLog at request
Says (asks.Diff request) = SaysDiff request.name request.span
Says asks.Survey = SaysSurvey

-- ---- a store of what stands before the damage

module _ {W D F P : Type 0} (world : WorldModel W D F P) where
  -- why a folder can't hold a new store
  abbrev pub CannotHoldNew : List ℕ → W → FolderFault → W → Type 0
  CannotHoldNew folder old fault new =
      world.made_folder folder old (Err fault) new
      ⊎ ((made : W) × world.made_folder folder old (Ok tt) made × world.opened_store folder made (Err fault) new)
      ⊎ ((made : W) × (seen : W) × world.made_folder folder old (Ok tt) made
      × world.opened_store folder made (Ok None) seen × world.opened New folder seen (Err fault) new)

  -- the folder has a store, or a file that is too long for one
  abbrev pub HasStore : List ℕ → W → W → Type 0
  HasStore folder old new =
      ((file : F) × world.opened_store folder old (Ok (Some file)) new)
      ⊎ world.opened_store folder old (Err TooLongForStore) new

  -- The disk of a folder that is to hold a new store: it is made if it is missing, and has no store.
  abbrev pub OpensNew : List ℕ → W → Result D ReadingFault → W → Type 0
  OpensNew folder old (Ok first) new =
      (made : W) × (seen : W) × world.made_folder folder old (Ok tt) made
      × world.opened_store folder made (Ok None) seen × world.opened New folder seen (Ok first) new
  OpensNew folder old (Err (Salvage NewStoreExists)) new =
      (made : W) × world.made_folder folder old (Ok tt) made × HasStore folder made new
  OpensNew folder old (Err (ReadingFolder fault)) new = CannotHoldNew folder old fault new
  OpensNew folder old (Err fault) new = ⊥

module _ {W D F P : Type 0} (world : WorldModel W D F P) (disk : DiskModel D) where
  -- A store was made on the disk of the new folder of what the file gives, or why not; and the disk was given back.
  pub record SavesTo (folder : List ℕ) (several : Bool) (given : Option (List ℕ)) (old new : W)
      (held written : Option (List ℕ)) (ending : Ending) : Type 0 where
    pub first : D
    pub opened : W
    pub opens : OpensNew world folder old (Ok first) opened
    pub result : Result (D × Findings) (D × SalvageFault)
    pub gives_back : world.given_back (disk_back result) opened new
    pub writes : WritesFindings result held written ending
    pub left : Option (List ℕ)
    pub saved : disk.honest → IfOk result
        (λ saved. Saves several given left (disk.folder first) (disk.folder saved.0) saved.1)
    pub refused : disk.honest → IfErr result
        (λ refused. RefusesSalvage several given left (disk.folder first) (disk.folder refused.0) refused.1)
    pub survives : disk.honest → LeavesOldOrSaved several disk given left first (disk_of result)

  -- the new folder can't hold a store
  pub record CannotSaveTo (folder : List ℕ) (old new : W) (held written : Option (List ℕ)) (ending : Ending)
      : Type 0 where
    pub fault : ReadingFault
    pub opens : OpensNew world folder old (Err fault) new
    pub keeps : written ≡ held
    pub ends : ending ≡ Of (outcome.Reading fault)

  -- a store in a new folder, of what a store's file gives
  abbrev pub SavesInFolder : List ℕ → Bool → Option (List ℕ) → W → W → Option (List ℕ) → Option (List ℕ) → Ending
      → Type 0
  SavesInFolder folder several given old new held written ending =
      CannotSaveTo folder old new held written ending ⊎ SavesTo folder several given old new held written ending

module _ {W D F P : Type 0} (world : WorldModel W D F P) (disk : DiskModel D) (remaining : F → Option (List ℕ)) where
  -- what is made of the file of a store, where it was opened
  abbrev pub SavesFound : List ℕ → Result F ReadingFault → W → W → Option (List ℕ) → Option (List ℕ) → Ending → Type 0
  SavesFound folder (Ok file) old new held written ending =
      SavesInFolder world disk folder (world.several file) (remaining file) old new held written ending
  SavesFound folder (Err fault) old new held written ending =
      (new ≡ old) × (written ≡ held) × (ending ≡ Of (outcome.Reading fault))

  -- `salvage`
  pub record Salvages (folder new_folder : List ℕ) (old new : W) (held written : Option (List ℕ)) (ending : Ending)
      : Type 0 where
    pub file : Result F ReadingFault
    pub found : W
    pub opens : OpensFile world folder old file found
    pub saves : SavesFound new_folder file found new held written ending
