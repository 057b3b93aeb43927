-- What a grouped session has read, answered and stored, for each of its results.
use Rattle.std.specs.Prelude.{◌≡◌, ◌≢◌, ◌⊎◌, ℕ, zero, ◌+◌, ◌-◌, ◌*◌, ◌<◌, ◌≤◌, false, List, [], ◌∷◌, ◌++◌, length, take, map, Option, Some}
use Rattle.std.specs.Prelude.{None, unwrap_or, Result, Err}
use Rattle.conf_session.specs.Prelude.{Consumes, Keeps, Appends, Folder, bytes_under, Image, IsImage, DiskModel, LeavesOnly, Store, base_in}
use Rattle.conf_session.specs.Prelude.{Command, Contents, MeansPrefix, AllImagesMean, HasFlushed, staged_text, HasGrown, StoreView}
use Rattle.conf_session.specs.{Requests.Request, declared.{fault.SessionFault.SessionFault, groups.Checkpoints.Checkpoints}}
use Rattle.conf_session.specs.declared.groups.{Checkpoints.TheVariants.{Asked, After}, Grouping.{Grouping, TheVariants.{Each, Read}}}
use Rattle.conf_session.specs.{declared.session.Tally.Tally, Streams.Streams, Handings.{Handings, HoldsSince, taken_in}, Answers.Stored}
use Rattle.conf_session.specs.Answers.{answer_bytes, answer_limit, stored_after, file_after, staged_after, accepted_command, refused_of}
use Rattle.conf_session.specs.Runs.{AfterAtLeast, BeginsWith, EndsAnswered, EndsEarly, Runs, stored_of}
use Rattle.conf_session.specs.declared.fault.SessionFault.TheVariants as fault

-- ---- turns

-- A turn of a grouped session: a request is performed, or a checkpoint that no request asked for is begun or finished.
pub data Turn : Type 0 where
  asked : (request : Request) → Turn
  begun : Turn
  finished : Turn

-- the requests among the turns
abbrev pub requests_of : List Turn → List Request
requests_of [] = []
requests_of ((asked request) ∷ turns) = request ∷ requests_of turns
requests_of (begun ∷ turns) = requests_of turns
requests_of (finished ∷ turns) = requests_of turns

-- these requests, one turn for each
abbrev pub all_asked : List Request → List Turn
all_asked requests = map asked requests

-- What is stored after a turn. A checkpoint that begins has the base of the state for its new file; one that is
-- finished puts that file in the place of `store.yaml`.
abbrev pub stored_after_turn : Stored → Turn → Stored
stored_after_turn now (asked request) = stored_after now request
stored_after_turn now begun = record now { staged = Some (length (base_in now.format now.state)) }
stored_after_turn now finished =
    record { state = now.state; size = unwrap_or now.staged 0; staged = None; format = now.format }

abbrev pub stored_after_turns : Stored → List Turn → Stored
stored_after_turns now [] = now
stored_after_turns now (turn ∷ turns) = stored_after_turns (stored_after_turn now turn) turns

-- what `store.yaml` reads as, and what the new file of a running checkpoint will
pub record Files : Type 0 where
  pub store : Option (List ℕ)
  pub staged : Option (List ℕ)

abbrev pub files_of : {D : Type 0} → (D → Folder) → StoreView D → Files
files_of folder seen = record {
  store = bytes_under (folder seen.disk) Store;
  staged = staged_text (folder seen.disk) seen.staged;
}

-- what the files read as after a turn
abbrev pub files_after_turn : Files → Stored → Turn → Files
files_after_turn files now (asked request) = record {
  store = file_after files.store now request;
  staged = staged_after files.staged now request;
}
files_after_turn files now begun = record { store = files.store; staged = Some (base_in now.format now.state) }
files_after_turn files now finished = record { store = files.staged; staged = None }

abbrev pub files_after_turns : Files → Stored → List Turn → Files
files_after_turns files now [] = files
files_after_turns files now (turn ∷ turns) =
    files_after_turns (files_after_turn files now turn) (stored_after_turn now turn) turns

-- the bytes of the answer to a turn: none, if no request asked for it
abbrev pub turn_output : Stored → Turn → List ℕ
turn_output now (asked request) = answer_bytes now request
turn_output now turn = []

-- the bytes of all answers
abbrev pub turns_output : Stored → List Turn → List ℕ
turns_output now [] = []
turns_output now (turn ∷ turns) = turn_output now turn ++ turns_output (stored_after_turn now turn) turns

-- the command of a turn, if it is accepted
abbrev pub turn_accepted : Stored → Turn → List Command
turn_accepted now (asked request) = accepted_command now request
turn_accepted now turn = []

-- the accepted commands of the turns, in order
abbrev pub turns_accepted : Stored → List Turn → List Command
turns_accepted now [] = []
turns_accepted now (turn ∷ turns) = turn_accepted now turn ++ turns_accepted (stored_after_turn now turn) turns

-- how many commands were accepted in the turns whose answers begin within so many bytes of the output
abbrev pub turns_within : Stored → List Turn → ℕ → ℕ
turns_within now [] bytes = 0
turns_within now (turn ∷ turns) zero = 0
turns_within now (turn ∷ turns) bytes =
    length (turn_accepted now turn) + turns_within (stored_after_turn now turn) turns (bytes - length (turn_output now turn))

-- whether a turn is answered by a refusal: 1 or 0
abbrev pub turn_refused : Stored → Turn → ℕ
turn_refused now (asked request) = refused_of now request
turn_refused now turn = 0

-- how many of the turns are refused
abbrev pub turns_refused : Stored → List Turn → ℕ
turns_refused now [] = 0
turns_refused now (turn ∷ turns) = turn_refused now turn + turns_refused (stored_after_turn now turn) turns

-- A checkpoint that begins is due: `store.yaml` has grown by so many bytes, at least, since its base was written.
abbrev pub IsDue : ℕ → Files → Turn → Type 0
IsDue bytes files begun = (grown : ℕ) × HasGrown files.store grown × (bytes ≤ grown)
IsDue bytes files turn = Unit {0}

abbrev pub AreDue : ℕ → Files → Stored → List Turn → Type 0
AreDue bytes files now [] = Unit {0}
AreDue bytes files now (turn ∷ turns) =
    IsDue bytes files turn × AreDue bytes (files_after_turn files now turn) (stored_after_turn now turn) turns

-- ---- how a grouped session ends, by its answered turns, and the requests that were performed without an answer

-- Exactly so many bytes of the answers were written, at most the limit of an answer for each piece. The first request
-- whose answer was not written whole is performed, and so are further ones.
pub record EndsInGroup (io : Streams) (start : Stored) (answered : List Turn)
    (unanswered : List Request) (count : ℕ) : Type 0 where
  pub bytes : List ℕ
  pub taken : Consumes io.given io.left bytes
  pub begins : BeginsWith bytes (requests_of answered ++ unanswered)
  pub last : Request
  pub further : List Request
  pub is : unanswered ≡ last ∷ further
  pub out : Appends io.held io.written (take count (turns_output start (answered ++ all_asked unanswered)))
  pub whole : length (turns_output start answered) ≤ count
  pub cut : count < length (turns_output start (answered ++ asked last ∷ []))
  pub bound : count ≤ length (requests_of answered ++ unanswered) * answer_limit

-- how a grouped session ends, by its result
abbrev pub GroupedEnds : Streams → Stored → List Turn
    → List Request → Result Tally SessionFault → Type 0
GroupedEnds io start answered unanswered (Err (fault.Write count)) =
    EndsInGroup io start answered unanswered count
GroupedEnds io start answered unanswered (Err fault.Device) =
    EndsEarly io (requests_of answered) unanswered (turns_output start answered)
GroupedEnds io start answered unanswered (Err fault.Reopen) =
    Keeps io.given io.left × Keeps io.held io.written × (answered ≡ []) × (unanswered ≡ [])
GroupedEnds io start answered unanswered result =
    (unanswered ≡ []) × EndsAnswered io (requests_of answered) (turns_output start answered)
    (length (turns_accepted start answered)) (turns_refused start answered) result

-- where the device fails, requests are performed that have no answer, or it fails in the flush before the first turn
abbrev pub FailsAtRequests : List Turn → List Request → Result Tally SessionFault → Type 0
FailsAtRequests answered unanswered (Err fault.Device) = (answered ≡ []) ⊎ (unanswered ≢ [])
FailsAtRequests answered unanswered result = Unit {0}

-- ---- a grouped session

-- How many commands no crash takes away once a grouped session has answered the turns: all that waited at its start, and
-- all that it accepted. Before the first turn it may be none.
abbrev pub acknowledged_turns : Stored → List Command → List Turn → ℕ
acknowledged_turns now waiting [] = 0
acknowledged_turns now waiting (turn ∷ turns) = length (waiting ++ turns_accepted now (turn ∷ turns))

-- A grouped session from one value of a store to the next. `flushed` is the state that is flushed at its start, and
-- `waiting` are the commands that were submitted since. At Device the store has to be opened again: `ends` says which
-- answers were handed out, `unanswered` are the requests that are performed without one, and `kept` says what no crash
-- takes back. `handings` are what the sink had taken before the session and after it.
pub record RunsGrouped {D : Type 0} (model : DiskModel D) (io : Streams) (handings : Handings)
    (checkpoints : Checkpoints)
    (old new : StoreView D) (result : Result Tally SessionFault) : Type 0 where
  pub answered : List Turn
  pub unanswered : List Request
  pub ends : GroupedEnds io (stored_of old) answered unanswered result
  -- a checkpoint that no request asks for is begun only if that is wanted, and only when it is due
  pub only_asked : checkpoints ≡ Asked → answered ≡ all_asked (requests_of answered)
  -- So only in such a checkpoint, or in the first flush, does the device fail while all that was performed is answered.
  -- Whether that turn was begun or finished is open then, and of no account: `kept` has all that was accepted.
  pub fails : checkpoints ≡ Asked → FailsAtRequests answered unanswered result
  pub due : model.honest → (bytes : ℕ) → checkpoints ≡ After bytes
      → AreDue bytes (files_of model.folder old) (stored_of old) answered
  pub state : new.state ≡ (stored_after_turns (stored_of old) (answered ++ all_asked unanswered)).state
  pub stored : new.reopen ≡ false
      → stored_of new ≡ stored_after_turns (stored_of old) (answered ++ all_asked unanswered)
  pub files : model.honest → new.reopen ≡ false
      → files_of model.folder new
      ≡ files_after_turns (files_of model.folder old) (stored_of old) (answered ++ all_asked unanswered)
  -- a crash at any moment leaves the state after a prefix of the commands that waited and of the accepted ones
  pub any_moment : model.honest → old.reopen ≡ false → (flushed : Contents) (waiting : List Command)
      → HasFlushed (model.folder old.disk) flushed waiting old.state
      → LeavesOnly model old.disk new.disk
      (λ image. MeansPrefix flushed
      (waiting ++ turns_accepted (stored_of old) (answered ++ all_asked unanswered)) image)
  -- a crash at any moment since bytes were handed out leaves one that has every command whose answer they begin
  pub handed : handings.after ≡ handings.before ++ taken_in handings
  pub cut_off : model.honest → old.reopen ≡ false → (flushed : Contents) (waiting : List Command)
      → HasFlushed (model.folder old.disk) flushed waiting old.state
      → HoldsSince model new.disk 0 (taken_in handings) (λ bytes image. AfterAtLeast flushed
      (length waiting + turns_within (stored_of old) (answered ++ all_asked unanswered) bytes)
      (waiting ++ turns_accepted (stored_of old) (answered ++ all_asked unanswered)) image)
  -- and a crash after the session leaves one that has every command that was answered
  pub kept : model.honest → old.reopen ≡ false → (flushed : Contents) (waiting : List Command)
      → HasFlushed (model.folder old.disk) flushed waiting old.state
      → (image : Image) → IsImage (model.folder new.disk) image
      → AfterAtLeast flushed (acknowledged_turns (stored_of old) waiting answered)
      (waiting ++ turns_accepted (stored_of old) (answered ++ all_asked unanswered)) image
  -- after the session nothing waits
  pub flushed : model.honest → new.reopen ≡ false → HasFlushed (model.folder new.disk) new.state [] new.state
  pub now : model.honest → new.reopen ≡ false → AllImagesMean (model.folder new.disk) new.state

-- ---- a session by its groups

-- which checkpoints it makes
abbrev pub checkpoints_of : Grouping → Checkpoints
checkpoints_of Each = Asked
checkpoints_of (Read checkpoints) = checkpoints

-- the most bytes of answers that are kept, but for the last answer: where each piece is a group, none
abbrev pub answers_limit : Grouping → ℕ
answers_limit Each = 0
answers_limit (Read checkpoints) = 65536

-- what it has read, answered and stored
abbrev pub RunsBy : {D : Type 0} → DiskModel D → Streams → Handings → Grouping → StoreView D → StoreView D
    → Result Tally SessionFault → Type 0
RunsBy model io handings Each old new result = Runs model io handings old new result
RunsBy model io handings (Read checkpoints) old new result = RunsGrouped model io handings checkpoints old new result
