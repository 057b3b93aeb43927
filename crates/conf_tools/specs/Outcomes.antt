-- How a run of the program ends, and what is told of it.
use Rattle.std.specs.Prelude.{◌≡◌, ◌⊎◌, ℕ, List, Option, Result, Ok, Err, codes, string_bytes}
use Rattle.conf_tools.specs.Prelude.{Tally, Invocation, Init, Import, Set, Alter, Batch, Checkpoint, Run, Export, ExportAll, Names, Get}
use Rattle.conf_tools.specs.Prelude.{Exists, Log, Diff, DiffFiles, Verify, Salvage, Backup, Format, Check, Unparsed, Shown, Wrong}
use Rattle.conf_tools.specs.{Dropped.TellsDropped, Exports.TellsExport, Listening.fault_line, ReadingStatuses.status_of_reading}
use Rattle.conf_tools.specs.{Refused.TellsFault, Styles.{TellsLeftOut, TellsOfValue}, Tails.{TellsRest, end_of_rest}}
use Rattle.conf_tools.specs.declared.{outcome.{Ending.{Ending, TheVariants.{Of, Told, ToldFault}}, Outcome.Outcome}, program.Status.Status}
use Rattle.conf_tools.specs.declared.{program.Status.TheVariants.{Done, Absent, Differs, Refused, WrongWords, Device}, tail.Tail.Tail}
use Rattle.conf_tools.specs.{declared.texts.ToolFault.TheVariants.Output, FaultLines.{reading_fault_name, store_fault_name}}
use Rattle.conf_tools.specs.{FaultLines.text_fault_name, NewFiles.{new_file_fault_name, status_of_new_file}, Sentences.HasSentence}
use Rattle.conf_tools.specs.Statuses.{code_of, status_of, status_of_store}
use Rattle.conf_words.specs.declared.unparsed.Unparsed.TheVariants.{OutOfMemory as NoMemory}
use Rattle.conf_tools.specs.declared.outcome.Outcome.TheVariants as ends

-- ---- statuses

-- the status of a word on a store
abbrev pub status_of_outcome : Outcome → Status
status_of_outcome ends.Done = Done
status_of_outcome ends.Absent = Absent
status_of_outcome ends.Differs = Differs
status_of_outcome (ends.Damaged folder) = Refused
status_of_outcome (ends.Text fault) = status_of fault
status_of_outcome (ends.Store fault) = status_of_store fault
status_of_outcome (ends.Reading fault) = status_of_reading fault
status_of_outcome (ends.Keeping fault) = status_of_new_file fault

-- the status of a run
abbrev pub status_of_ending : Ending → Status
status_of_ending (Of outcome) = status_of_outcome outcome
status_of_ending (Told status) = status
status_of_ending (ToldFault fault) = status_of fault

-- how the writing of a text ends
abbrev pub EndsWriting : Outcome → Type 0
EndsWriting ends.Done = Unit {0}
EndsWriting (ends.Text fault) = fault ≡ Output
EndsWriting outcome = ⊥

-- ---- what is told

module _ {E : Type 0} (hears : E → List ℕ → E → Type 0) where
  -- a line says that the store is damaged, and another one what to do
  pub record TellsDamage (old new : E) : Type 0 where
    pub named : E
    pub tells : hears old (fault_line (codes "Damaged")) named

  -- Why a word on a store ended early is told in a line, by the name of the fault. Where all was done, nothing is at a
  -- place, or what was compared differs, nothing is told.
  abbrev pub TellsOutcome : Outcome → E → E → Type 0
  TellsOutcome ends.Done old new = new ≡ old
  TellsOutcome ends.Absent old new = new ≡ old
  TellsOutcome ends.Differs old new = new ≡ old
  TellsOutcome (ends.Damaged folder) old new = TellsDamage old new
  TellsOutcome (ends.Text fault) old new = hears old (fault_line (text_fault_name fault)) new
  TellsOutcome (ends.Store fault) old new = hears old (fault_line (store_fault_name fault)) new
  TellsOutcome (ends.Reading fault) old new = hears old (fault_line (reading_fault_name fault)) new
  TellsOutcome (ends.Keeping fault) old new = hears old (fault_line (new_file_fault_name fault)) new

  -- the same at the end of a run, if it is still to be told
  abbrev pub TellsEnding : Ending → E → E → Type 0
  TellsEnding (Of outcome) old new = TellsOutcome outcome old new
  TellsEnding (Told status) old new = new ≡ old
  TellsEnding (ToldFault fault) old new = new ≡ old

-- what a session did not perform of an input with this tail was told, where it came to the end of the input
abbrev pub TellsUnperformed : {E A F : Type 0} → (E → List ℕ → E → Type 0) → Tail → Result (A × Tally) F → E → E → Type 0
TellsUnperformed hears tail (Ok (disk, tally)) old new = TellsRest hears (end_of_rest tail.kept tail.blanks tally.rest) tally.rest old new
TellsUnperformed hears tail (Err fault) old new = new ≡ old

-- what opening dropped was told, if it dropped anything, and then what a session did not perform, if there is any
pub record TellsSession {E : Type 0} (hears : E → List ℕ → E → Type 0) (old new : E) : Type 0 where
  pub opened : E
  pub dropped : TellsDropped hears old opened
  pub end : Option (List ℕ)
  pub rest : ℕ
  pub tells : TellsRest hears end rest opened new

-- where the status is 0, nothing was told
abbrev pub SilentIfDone : {E : Type 0} → Status → E → E → Type 0
SilentIfDone status old new = code_of status ≡ 0 → new ≡ old

-- what went wrong is still to be told
abbrev pub IsUntold : Ending → Type 0
IsUntold (Of outcome) = Unit {0}
IsUntold ending = ⊥

module _ {E : Type 0} (hears : E → List ℕ → E → Type 0) where
  -- where the status is 0, at most how many comments were left out was told
  abbrev pub TellsIfDone : Status → E → E → Type 0
  TellsIfDone status old new = code_of status ≡ 0 → TellsLeftOut hears old new

  -- At most how many comments were left out was told, and what is still to be told was not; or what is wrong with a text
  -- was told.
  abbrev pub TellsOnlyTold : Ending → E → E → Type 0
  TellsOnlyTold (Of outcome) old new = TellsLeftOut hears old new
  TellsOnlyTold (ToldFault fault) old new = TellsFault hears old fault
  TellsOnlyTold (Told status) old new = ⊥

  -- nothing was told so far, not even what went wrong
  abbrev pub LeavesAll : E → Ending → E → Type 0
  LeavesAll old ending new = IsUntold ending × (new ≡ old)

  -- at most what opening dropped was told so far
  abbrev pub LeavesOpened : E → Ending → E → Type 0
  LeavesOpened old ending new = IsUntold ending × TellsDropped hears old new

  -- the same, and then at most how many comments were left out, or what is wrong with the text
  abbrev pub LeavesImport : E → Ending → E → Type 0
  LeavesImport old (Of outcome) new = (opened : E) × TellsDropped hears old opened × TellsLeftOut hears opened new
  LeavesImport old (ToldFault fault) new = (opened : E) × TellsDropped hears old opened × TellsFault hears opened fault
  LeavesImport old (Told status) new = ⊥

  -- the same, first of the comments or of a value that is `-`; or what is wrong with the text was told
  abbrev pub LeavesSet : E → Ending → E → Type 0
  LeavesSet old (Of outcome) new = (read : E) × TellsOfValue hears old read × TellsDropped hears read new
  LeavesSet old (ToldFault fault) new = TellsFault hears old fault
  LeavesSet old (Told status) new = ⊥

  -- at most what opening dropped was told so far; or what is wrong with the text was told
  abbrev pub LeavesBatch : E → Ending → E → Type 0
  LeavesBatch old (Of outcome) new = TellsDropped hears old new
  LeavesBatch old (ToldFault fault) new = TellsFault hears old fault
  LeavesBatch old (Told status) new = ⊥

  -- nothing was told so far, or why a file was not read or written was
  abbrev pub LeavesFiles : E → Ending → E → Type 0
  LeavesFiles old (Of outcome) new = new ≡ old
  LeavesFiles old (ToldFault fault) new = TellsFault hears old fault
  LeavesFiles old (Told status) new = ⊥

  -- What is wrong with texts was told: of one text its fault, and of several files what `tells` says of the status.
  abbrev pub LeavesTold : (Status → E → E → Type 0) → E → Ending → E → Type 0
  LeavesTold tells old (Told status) new = tells status old new
  LeavesTold tells old (ToldFault fault) new = TellsFault hears old fault
  LeavesTold tells old (Of outcome) new = ⊥

  -- What a word leaves to be told at its end. One that reads the file of a store has told nothing so far. One that opens a
  -- store may have told what opening dropped, an export that it read the file as it stands, and a session what it did not
  -- perform. One on texts has told what is wrong with a text. Where the status is 0, one that leaves comments out may have
  -- told how many, and nothing else is told.
  abbrev pub Leaves : Invocation → E → Ending → E → Type 0
  Leaves (Init folder) old ending new = LeavesOpened old ending new
  Leaves (Import asked about reporting) old ending new = LeavesImport old ending new
  Leaves (Set target put about reporting) old ending new = LeavesSet old ending new
  Leaves (Alter target alteration about) old ending new = LeavesOpened old ending new
  Leaves (Batch asked about reporting) old ending new = LeavesBatch old ending new
  Leaves (Checkpoint folder) old ending new = LeavesOpened old ending new
  Leaves (Run folder grouping) old ending new = IsUntold ending × TellsSession hears old new
  Leaves (Export folder name form) old ending new = IsUntold ending × TellsExport hears old new
  Leaves (ExportAll folder into form) old ending new = LeavesFiles old ending new
  Leaves (Names folder at form) old ending new = LeavesAll old ending new
  Leaves (Get folder places absent form) old ending new = LeavesAll old ending new
  Leaves (Exists folder place) old ending new = LeavesAll old ending new
  Leaves (Log folder commands form) old ending new = LeavesAll old ending new
  Leaves (Diff folder name span) old ending new = LeavesAll old ending new
  Leaves (DiffFiles first second) old ending new = LeavesFiles old ending new
  Leaves (Verify folder keep_dropped) old ending new = LeavesAll old ending new
  Leaves (Salvage folder new_folder keep_dropped) old ending new = LeavesAll old ending new
  Leaves (Backup folder new_folder) old ending new = LeavesAll old ending new
  Leaves (Format formatting files reporting) old ending new = LeavesTold TellsIfDone old ending new
  Leaves (Check style files reporting) old ending new = LeavesTold SilentIfDone old ending new

-- What a run tells that ends so, with this status: first what its word does (`leaves`), and then its ending. More follows
-- only where a sentence says what was looked for, or where a device failed, of which it is said why.
pub record Tells {E : Type 0} (hears : E → List ℕ → E → Type 0) (word : Invocation) (old new : E) (ending : Ending)
    (ended : Status) : Type 0 where
  pub before : E
  pub leaves : Leaves hears word old ending before
  pub told : E
  pub tells : TellsEnding hears ending before told
  pub cause : HasSentence ending ⊎ (ended ≡ Device) ⊎ (new ≡ told)

-- ---- words that ask for nothing

module _ {E : Type 0} (hears : E → List ℕ → E → Type 0) where
  -- a line says that memory ran out
  abbrev pub TellsNoMemory : E → E → Type 0
  TellsNoMemory old new = hears old (fault_line (codes "OutOfMemory")) new

  -- of a text that was written nothing is told, and of one that was not, a line
  abbrev pub TellsShown : E → E → Status → Type 0
  TellsShown old new ended =
      ((ended ≡ Done) × (new ≡ old)) ⊎ ((ended ≡ Device) × hears old (fault_line (codes "Output")) new)

  -- What is told where there is no invocation. Help is such a text.
  abbrev pub TellsUnparsed : Unparsed → E → E → Status → Type 0
  TellsUnparsed (Shown text) old new ended = TellsShown old new ended
  TellsUnparsed (Wrong lines) old new ended = hears old (string_bytes lines) new
  TellsUnparsed NoMemory old new ended = TellsNoMemory old new

  -- What is told of words that could not be read: they are not UTF-8, or memory ran out.
  abbrev pub RefusesWords : E → E → Status → Type 0
  RefusesWords old new ended =
      ((ended ≡ WrongWords) × hears old (codes "error: the words are not UTF-8\n") new)
      ⊎ ((ended ≡ Refused) × TellsNoMemory old new)
