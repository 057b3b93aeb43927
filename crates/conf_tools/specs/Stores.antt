-- What a tool on a store has read, answered and written, and what it leaves on its disk.
use Rattle.std.specs.Prelude.{◌≡◌, ◌≢◌, ◌≤◌, ℕ, Bool, false, List, [], ◌++◌, length, Option, None, Result, Ok, Err}
use Rattle.conf_tools.specs.Prelude.{Keeps, bytes_under, several_waited, Image, IsImage, DiskModel, LeavesOnly, Store, Command, HasFailed}
use Rattle.conf_tools.specs.Prelude.{FileMeans, MeansPrefix, AllImagesMean, HasFlushed, FilesStay, HasLength, IsOldOrBase, FileRecoversTo}
use Rattle.conf_tools.specs.Prelude.{MeantAtEntry, ReadsAfterOpening, RefusalMeans, RefusesOpening, StoreView, OpenFault, SessionFault}
use Rattle.conf_tools.specs.Prelude.{Stored, accepted_commands, file_after_all, AfterAtLeast, Ends, Runs, stored_of, Checkpoints, After}
use Rattle.conf_tools.specs.{Prelude.{Asked, Tally, Streams}, declared.stores.Grouping.{Grouping, TheVariants.{Single, Grouped}}}
use Rattle.conf_tools.specs.declared.stores.StoreToolFault.{StoreToolFault, TheVariants.{Open, Session}}
use Rattle.conf_session.specs.{Requests.Request, Groups.{AreDue, GroupedEnds, RunsGrouped, Turn, all_asked, files_after_turns, requests_of}}
use Rattle.conf_session.specs.{Groups.{turns_accepted, turns_within}, Handings.{Handings, HoldsSince, accepted_within, taken_in}}
use Rattle.conf_store.specs.Opens.{file_format}
use Rattle.conf_store.specs.declared.fault.OpenFault.TheVariants as OpenFaults
use Rattle.conf_session.specs.declared.fault.SessionFault.TheVariants as SessionFaults

-- What a session made of its input: the commands that it accepted, how many of these it answered (the first ones), how
-- many are answered within so many bytes of its output, and what it left of `store.yaml`.
pub record Work : Type 0 where
  pub accepted : List Command
  pub answered : ℕ
  pub within : ℕ → ℕ
  pub file : Option (List ℕ)

-- A session that answers each command by itself ended so. Each accepted command appends its record to the file, and
-- each checkpoint puts a base in its place.
pub record AnswersEach (io : Streams) (start : Stored) (file : Option (List ℕ))
    (result : Result Tally SessionFault) (work : Work) : Type 0 where
  pub answered : List Request
  pub performed : List Request
  pub ends : Ends io start answered performed result
  pub does : work ≡ record {
    accepted = accepted_commands start performed;
    answered = length (accepted_commands start answered);
    within = accepted_within start performed;
    file = file_after_all file start performed;
  }

-- The same of a session in groups. Its turns are the commands, and the checkpoints that no command asked for; those are
-- begun only if they are wanted. The file of a checkpoint that is finished takes the place of `store.yaml`.
pub record AnswersGroups (io : Streams) (start : Stored) (file : Option (List ℕ))
    (checkpoints : Checkpoints) (result : Result Tally SessionFault) (work : Work) : Type 0 where
  pub answered : List Turn
  pub unanswered : List Request
  pub ends : GroupedEnds io start answered unanswered result
  pub only_asked : checkpoints ≡ Asked → answered ≡ all_asked (requests_of answered)
  pub does : work ≡ record {
    accepted = turns_accepted start (answered ++ all_asked unanswered);
    answered = length (turns_accepted start answered);
    within = turns_within start (answered ++ all_asked unanswered);
    file = (files_after_turns (record { store = file; staged = None }) start (answered ++ all_asked unanswered)).store;
  }

-- A session ended so, on a store that held `start` and whose `store.yaml` read as `file`.
abbrev pub Answers : Streams → Stored
    → Option (List ℕ) → Grouping → Result Tally SessionFault → Work → Type 0
Answers io start file Single result work =
    AnswersEach io start file result work
Answers io start file (Grouped checkpoints) result work =
    AnswersGroups io start file checkpoints result work

-- Each checkpoint that no command asked for is begun only when it is due, where they are wanted by growth: `store.yaml`
-- has grown by so many bytes since its base was written.
abbrev pub BeginsWhenDue : Checkpoints → Stored → Option (List ℕ) → List Turn → Type 0
BeginsWhenDue Asked start file turns = Unit {0}
BeginsWhenDue (After bytes) start file turns = AreDue bytes (record { store = file; staged = None }) start turns

-- the same of a session of either kind; in one without groups none is begun
abbrev pub CheckpointsAreDue : (io : Streams) (start : Stored) (file : Option (List ℕ))
    (grouping : Grouping) (result : Result Tally SessionFault) (work : Work)
    → Answers io start file grouping result work → Type 0
CheckpointsAreDue io start file Single result work answers = Unit {0}
CheckpointsAreDue io start file (Grouped checkpoints) result work answers =
    BeginsWhenDue checkpoints start file answers.answered

-- ---- opening

-- What opening made of a `store.yaml` with this note: a store that holds `start`, and a file that reads as `after`. The
-- state is what the file meant, the size is the length of what it reads as now, the format is that of its base, and no
-- checkpoint runs.
pub record OpensTo (several : Bool) (before : Option (List ℕ)) (start : Stored) (after : Option (List ℕ)) : Type 0 where
  pub means : FileMeans several before start.state
  pub records : ℕ
  pub dropped : ℕ
  pub recovers : FileRecoversTo several before start.state records dropped
  pub reads : ReadsAfterOpening before start.state dropped after
  pub size : HasLength after start.size
  pub format : start.format ≡ file_format after
  pub no_checkpoint : start.staged ≡ None

-- The store on a disk was opened, and nothing waits. A crash during it leaves what the disk might have left before, and
-- the device's failures did not become fewer.
pub record OpensOn {D : Type 0} (model : DiskModel D) (old : D) (store : StoreView D) : Type 0 where
  pub no_reopen : store.reopen ≡ false
  pub no_checkpoint : store.staged ≡ None
  pub opens : model.honest
      → OpensTo (several_waited (model.folder old)) (bytes_under (model.folder old) Store) (stored_of store)
      (bytes_under (model.folder store.disk) Store)
  pub at_any_moment : model.honest
      → LeavesOnly model old store.disk (MeantAtEntry (model.folder old))
  pub flushed : model.honest → HasFlushed (model.folder store.disk) store.state [] store.state
  pub images : model.honest → AllImagesMean (model.folder store.disk) store.state
  pub risen : model.failure_count old ≤ model.failure_count store.disk

-- The store on a disk can't be opened. But for Device no file has changed, and at Device `store.yaml` may be a base of
-- the state that it meant. A crash during it leaves what the disk might have left before.
pub record CannotOpen {D : Type 0} (model : DiskModel D) (old new : D) (fault : OpenFault) : Type 0 where
  pub refuses : model.honest
      → RefusesOpening fault (several_waited (model.folder old)) (bytes_under (model.folder old) Store)
  pub no_meaning : model.honest
      → RefusalMeans fault (several_waited (model.folder old)) (bytes_under (model.folder old) Store)
  pub stays : model.honest → fault ≢ OpenFaults.Device → FilesStay model old new
  pub cause : fault ≡ OpenFaults.Device → HasFailed (model.failure_count old) (model.failure_count new)
  pub old_or_base : model.honest
      → IsOldOrBase (several_waited (model.folder old)) (bytes_under (model.folder old) Store)
      (bytes_under (model.folder new) Store)
  pub at_any_moment : model.honest → LeavesOnly model old new (MeantAtEntry (model.folder old))

-- the store was opened, whatever came after that
abbrev pub WasOpened : {A D : Type 0} → Result A (D × StoreToolFault) → Type 0
WasOpened (Err (disk, Open fault)) = ⊥
WasOpened result = Unit {0}

-- ---- a session on a disk

-- A session from one value of a store to the next, as the call for its grouping says.
abbrev pub SessionRuns : {D : Type 0} → DiskModel D → Streams → Handings → Grouping → StoreView D → StoreView D
    → Result Tally SessionFault → Type 0
SessionRuns model io handings Single old new result =
    Runs model io handings old new result
SessionRuns model io handings (Grouped checkpoints) old new result =
    RunsGrouped model io handings checkpoints old new result

-- A session ran on the store that opening made of the disk, whose `store.yaml` read as `file` then. It ended by Device
-- only where the device failed during the call.
pub record AnswersOn {D : Type 0} (model : DiskModel D)
    (io : Streams) (grouping : Grouping) (old new : D)
    (result : Result Tally SessionFault) : Type 0 where
  pub start : Stored
  pub file : Option (List ℕ)
  pub work : Work
  pub answers : Answers io start file grouping result work
  pub due : model.honest → CheckpointsAreDue io start file grouping result work answers
  pub opens : model.honest
      → OpensTo (several_waited (model.folder old)) (bytes_under (model.folder old) Store) start file
  pub reads : model.honest → result ≢ Err SessionFaults.Device → bytes_under (model.folder new) Store ≡ work.file
  pub not_reopen : result ≢ Err SessionFaults.Reopen
  pub cause : result ≡ Err SessionFaults.Device → HasFailed (model.failure_count old) (model.failure_count new)

-- what a tool hands back after a session
abbrev pub after_session : {D : Type 0} → D → Result Tally SessionFault → Result (D × Tally) (D × StoreToolFault)
after_session disk (Ok tally) = Ok (disk, tally)
after_session disk (Err fault) = Err (disk, Session fault)

-- How a session on a disk ends, and what its files read as then. Nothing is read or written if the store can't be
-- opened.
abbrev pub RunsOn : {D : Type 0} → DiskModel D
    → Streams → Grouping → D
    → Result (D × Tally) (D × StoreToolFault) → Type 0
RunsOn model io grouping old (Ok (new, tally)) =
    AnswersOn model io grouping old new (Ok tally)
RunsOn model io grouping old (Err (new, Session fault)) =
    AnswersOn model io grouping old new (Err fault)
RunsOn model io grouping old (Err (new, Open fault)) =
    Keeps io.given io.left × Keeps io.held io.written × CannotOpen model old new fault
RunsOn model io grouping old (Err (new, fault)) = ⊥

-- ---- what a crash leaves of a session

-- What a session on a store promises. `opened` is the disk once the store is open, where nothing waits. Until then a
-- crash leaves what the disk might have left before the call; from then on, the state after a prefix of the accepted
-- commands, from the state that `store.yaml` meant. Once bytes were handed out, that prefix has every command whose answer
-- they begin, and once the call has returned, every command whose answer was written.
pub record KeepsAnswered {D : Type 0} (model : DiskModel D)
    (io : Streams) (handings : Handings) (grouping : Grouping) (old new : D)
    (result : Result Tally SessionFault) : Type 0 where
  pub start : Stored
  pub opened : D
  pub work : Work
  pub answers : Answers io start (bytes_under (model.folder opened) Store) grouping result work
  pub opens : OpensTo (several_waited (model.folder old)) (bytes_under (model.folder old) Store) start
      (bytes_under (model.folder opened) Store)
  pub nothing_waits : HasFlushed (model.folder opened) start.state [] start.state
  pub while_opening : LeavesOnly model old opened (MeantAtEntry (model.folder old))
  pub once_open : LeavesOnly model opened new (MeansPrefix start.state work.accepted)
  pub handed : handings.after ≡ handings.before ++ taken_in handings
  pub cut_off : HoldsSince model new 0 (taken_in handings)
      (λ bytes image. AfterAtLeast start.state (work.within bytes) work.accepted image)
  pub returned : (image : Image) → IsImage (model.folder new) image
      → AfterAtLeast start.state work.answered work.accepted image

-- the same of a call that may not have opened the store
abbrev pub SurvivesCrashes : {D : Type 0} → DiskModel D → Streams → Handings → Grouping → D
    → Result (D × Tally) (D × StoreToolFault) → Type 0
SurvivesCrashes model io handings grouping old (Ok (new, tally)) =
    KeepsAnswered model io handings grouping old new (Ok tally)
SurvivesCrashes model io handings grouping old (Err (new, Session fault)) =
    KeepsAnswered model io handings grouping old new (Err fault)
SurvivesCrashes model io handings grouping old (Err (new, fault)) =
    LeavesOnly model old new (MeantAtEntry (model.folder old))
