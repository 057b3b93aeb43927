-- One group of a grouped session: the pieces that one read brought are performed, flushed and then answered.
use Rattle.std.specs.Prelude.{◌≡◌, ◌≢◌, ◌⊎◌, ℕ, ◌+◌, ◌*◌, ◌<◌, ◌≤◌, true, false, List, [], ◌++◌, length, take, Option, Some, None, Result}
use Rattle.std.specs.Prelude.{Ok, Err, All}
use Rattle.conf_session.specs.Prelude.{Appends, Keeps, ClosesOnce, DiskModel, LeavesOnly, Command, Contents, MeansPrefix, AllImagesMean}
use Rattle.conf_session.specs.{Prelude.{HasFlushed, HasGrown, StoreView}, Said.piece_limit, declared.input.Input.Input}
use Rattle.conf_session.specs.declared.groups.{Checkpoints.{Checkpoints, TheVariants.{Asked, After}}, Grouping.{Grouping, TheVariants.Each}}
use Rattle.conf_session.specs.declared.{groups.Grouping.TheVariants.Read, reply.Reply.Reply, unwritten.Unwritten.Unwritten}
use Rattle.conf_session.specs.{declared.fault.SessionFault.SessionFault, Requests.{Request, Asks}, Runs.{TakesUp, stored_of}, Input.IsSound}
use Rattle.conf_session.specs.{Input.{ahead, bytes_read, piece_or_rest, session_limit}, Handings.{Handing, handed_bytes}, Answers.Stored}
use Rattle.conf_session.specs.{Answers.{answer_limit, output, stored_after_all, accepted_commands, refusals}, Replies.DidAsked}
use Rattle.conf_session.specs.{Replies.{MeansPrefixes, Performs, PerformsAll, Replies, accepts, refuses, reply_bytes}, Groups.AreDue}
use Rattle.conf_session.specs.Groups.{Turn, all_asked, files_after_turns, files_of, requests_of, stored_after_turns, turns_accepted}
use Rattle.conf_session.specs.declared.fault.SessionFault.TheVariants as fault

-- ---- answers that are not written yet

-- the bytes of the last answer, where it is kept apart
abbrev pub last_bytes : Option Reply → List ℕ
last_bytes None = []
last_bytes (Some reply) = reply_bytes reply

-- the bytes of all answers that are not written yet
abbrev pub unwritten_bytes : Unwritten → List ℕ
unwritten_bytes answers = answers.text.items ++ last_bytes answers.last

-- What keeps the counts within their types: there are no more pieces than bytes of the input, and no answer is longer
-- than the limit.
pub record HasRoomFor (answers : Unwritten) (left total : ℕ) : Type 0 where
  pub within : length answers.text.items ≤ answers.limit
  pub few : answers.tally.documents + left ≤ total
  pub limit : total ≤ session_limit
  pub accepted : answers.tally.accepted ≤ answers.tally.documents
  pub refused : answers.tally.refused ≤ answers.tally.documents
  pub out : answers.written + length (unwritten_bytes answers) ≤ answers.tally.documents * answer_limit

-- one answer more is kept, and counted
pub record KeepsAnswer (before after : Unwritten) (reply : Reply) : Type 0 where
  pub bytes : unwritten_bytes after ≡ unwritten_bytes before ++ reply_bytes reply
  pub within : length after.text.items ≤ after.limit
  pub documents : after.tally.documents ≡ before.tally.documents + 1
  pub accepted : after.tally.accepted ≡ before.tally.accepted + accepts reply
  pub refused : after.tally.refused ≡ before.tally.refused + refuses reply
  pub written : after.written ≡ before.written
  pub limit : after.limit ≡ before.limit

-- all answers are written, and none is kept
pub record WritesAnswers (held written : Option (List ℕ)) (before after : Unwritten) : Type 0 where
  pub out : Appends held written (unwritten_bytes before)
  pub none : after.last ≡ None
  pub empty : after.text.items ≡ []
  pub tally : after.tally ≡ before.tally
  pub sent : after.written ≡ before.written + length (unwritten_bytes before)
  pub limit : after.limit ≡ before.limit

-- so many bytes were written, with those of the answers before
pub record CutsAnswers (held written : Option (List ℕ)) (answers : Unwritten) (total : ℕ) : Type 0 where
  pub count : ℕ
  pub is : total ≡ answers.written + count
  pub cut : count < length (unwritten_bytes answers)
  pub out : Appends held written (take count (unwritten_bytes answers))

-- a sink took no more than so many bytes, all of them at this moment
pub record HandsOut (before after : List Handing) (moment most : ℕ) : Type 0 where
  pub handings : List Handing
  pub noted : after ≡ before ++ handings
  pub now : All (λ handing. handing.moment ≡ moment) handings
  pub few : handed_bytes handings ≤ most

-- what a write that fails says
abbrev pub FailsToWrite : Option (List ℕ) → Option (List ℕ) → Unwritten → SessionFault → Type 0
FailsToWrite held written answers f = (total : ℕ) × (f ≡ fault.Write total) × CutsAnswers held written answers total

-- ---- turns

-- The turns are performed, one after the other, and all is flushed: whatever a crash leaves now means the state.
pub record PerformsTurns {D : Type 0} (model : DiskModel D) (old new : StoreView D) (turns : List Turn) : Type 0 where
  pub sound : new.reopen ≡ false
  pub stored : stored_of new ≡ stored_after_turns (stored_of old) turns
  pub files : model.honest
      → files_of model.folder new ≡ files_after_turns (files_of model.folder old) (stored_of old) turns
  pub any_moment : model.honest → (flushed : Contents) (waiting : List Command)
      → HasFlushed (model.folder old.disk) flushed waiting old.state
      → LeavesOnly model old.disk new.disk
      (λ image. MeansPrefix flushed (waiting ++ turns_accepted (stored_of old) turns) image)
  pub flushed : model.honest → HasFlushed (model.folder new.disk) new.state [] new.state
  pub now : model.honest → AllImagesMean (model.folder new.disk) new.state

-- the requests are performed, one after the other, and all is flushed
abbrev pub PerformsFlushed : {D : Type 0} → DiskModel D → StoreView D → StoreView D → List Request → Type 0
PerformsFlushed model old new requests = PerformsTurns model old new (all_asked requests)

-- The device failed in a turn that no request asked for. A crash leaves what was flushed before.
pub record StopsShort {D : Type 0} (model : DiskModel D) (old new : StoreView D) : Type 0 where
  pub broken : new.reopen ≡ true
  pub state : new.state ≡ old.state
  pub any_moment : model.honest → (flushed : Contents) (waiting : List Command)
      → HasFlushed (model.folder old.disk) flushed waiting old.state
      → LeavesOnly model old.disk new.disk (λ image. MeansPrefix flushed waiting image)

-- how a call ends that only the device can make fail
abbrev pub OrStops : {D : Type 0} → DiskModel D → StoreView D → StoreView D → Type 0
    → Result (Unit {0}) SessionFault → Type 0
OrStops model old new Done (Ok done) = Done
OrStops model old new Done (Err f) = (f ≡ fault.Device) × StopsShort model old new

-- all that waited is flushed
abbrev pub FlushesAll : {D : Type 0} → DiskModel D → StoreView D
    → StoreView D → Result (Unit {0}) SessionFault → Type 0
FlushesAll model old new result = OrStops model old new (PerformsTurns model old new []) result

-- what is done before the first group: where each piece is one, nothing, and else all that waits is flushed
abbrev pub Starts : {D : Type 0} → DiskModel D → Grouping → StoreView D
    → StoreView D → Result (Unit {0}) SessionFault → Type 0
Starts model Each old new result = (result ≡ Ok tt) × (new ≡ old)
Starts model (Read checkpoints) old new result = FlushesAll model old new result

-- turns that no request asked for, and that are due
abbrev pub MakesTurns : {D : Type 0} → DiskModel D → StoreView D → StoreView D → (List Turn → Type 0) → Type 0
MakesTurns model old new Due =
    (turns : List Turn) × (requests_of turns ≡ []) × Due turns × PerformsTurns model old new turns

-- a slice is written: that is a turn if it is the last one
abbrev pub TendsBySlice : {D : Type 0} → DiskModel D → StoreView D
    → StoreView D → Result (Unit {0}) SessionFault → Type 0
TendsBySlice model old new result = OrStops model old new (MakesTurns model old new
    (λ turns. (bytes : ℕ) → AreDue bytes (files_of model.folder old) (stored_of old) turns)) result

-- a checkpoint is begun, if there is memory for it
abbrev pub TendsByBeginning : {D : Type 0} → DiskModel D → StoreView D
    → StoreView D → Result (Unit {0}) SessionFault → Type 0
TendsByBeginning model old new result = OrStops model old new (MakesTurns model old new
    (λ turns. (bytes grown : ℕ) → HasGrown (files_of model.folder old).store grown → bytes ≤ grown
    → AreDue bytes (files_of model.folder old) (stored_of old) turns)) result

-- A turn that no request asked for, or none. Nothing is done if only those are wanted that requests ask for, and a
-- checkpoint is begun only when it is due.
abbrev pub Tends : {D : Type 0} → DiskModel D → Checkpoints
    → StoreView D → StoreView D → Result (Unit {0}) SessionFault → Type 0
Tends model checkpoints old new result =
    (checkpoints ≡ Asked → (result ≡ Ok tt) × (new ≡ old))
    × OrStops model old new (MakesTurns model old new (λ turns. model.honest → (bytes : ℕ) → checkpoints ≡ After bytes
    → AreDue bytes (files_of model.folder old) (stored_of old) turns)) result

-- ---- one piece

-- the piece is performed, and its answer is kept
pub record GathersPiece {D : Type 0} (model : DiskModel D) (old new : StoreView D)
    (piece : List ℕ) (before after : Unwritten) : Type 0 where
  pub request : Request
  pub asks : Asks piece request
  pub sound : new.reopen ≡ false
  pub performs : Performs model old new request
  pub reply : Reply
  pub replies : Replies (stored_of old) request reply
  pub keeps : KeepsAnswer before after reply

-- what became of a piece that has no answer
abbrev pub LeavesPiece : {D : Type 0} → DiskModel D → StoreView D → StoreView D → List ℕ → SessionFault → Type 0
LeavesPiece model old new piece fault = DidAsked model old new (Asks piece) (Err fault)

-- ---- the pieces of a group

-- a piece that was read is next, and bytes after it
pub record IsAtPiece (input : Input) : Type 0 where
  pub sound : IsSound input
  pub piece : ClosesOnce (piece_or_rest input)
  pub short : length (piece_or_rest input) ≤ piece_limit

-- the answers to these requests are kept, and counted
pub record KeepsAnswers (start : Stored) (requests : List Request) (before after : Unwritten) : Type 0 where
  pub bytes : unwritten_bytes after ≡ unwritten_bytes before ++ output start requests
  pub within : length after.text.items ≤ after.limit
  pub short : length (output start requests) ≤ length requests * answer_limit
  pub documents : after.tally.documents ≡ before.tally.documents + length requests
  pub accepted : after.tally.accepted ≡ before.tally.accepted + length (accepted_commands start requests)
  pub refused : after.tally.refused ≡ before.tally.refused + refusals start requests
  pub written : after.written ≡ before.written
  pub limit : after.limit ≡ before.limit

-- The pieces are performed, and their answers are kept. Without a piece nothing was done. Where a text of answers has
-- no room, there is one piece at most.
pub record GathersPieces {D : Type 0} (model : DiskModel D) (bytes further : List ℕ) (old new : StoreView D)
    (before after : Unwritten) : Type 0 where
  pub requests : List Request
  pub takes : TakesUp bytes further requests
  pub performs : PerformsAll model old new requests
  pub keeps : KeepsAnswers (stored_of old) requests before after
  pub none : requests ≡ [] → new ≡ old
  pub single : before.limit ≡ 0 → length requests ≤ 1

-- The device failed. The pieces are performed, maybe but for the last, and none is answered. There is one at least, and
-- where a text of answers has no room, there is no other.
pub record BreaksOff {D : Type 0} (model : DiskModel D) (bytes : List ℕ) (limit : ℕ) (old new : StoreView D)
    : Type 0 where
  pub broken : new.reopen ≡ true
  pub requests : List Request
  pub some : requests ≢ []
  pub single : limit ≡ 0 → length requests ≡ 1
  pub further : List ℕ
  pub takes : TakesUp bytes further requests
  pub state : new.state ≡ (stored_after_all (stored_of old) requests).state
  pub any_moment : model.honest → (flushed : Contents) (waiting : List Command)
      → HasFlushed (model.folder old.disk) flushed waiting old.state
      → LeavesOnly model old.disk new.disk
      (λ image. MeansPrefix flushed (waiting ++ accepted_commands (stored_of old) requests) image)

-- What became of a group before it is flushed, whose bytes are the piece in hand and those after it. Only a checkpoint,
-- or a command that renews the file, flushed something. If memory ran out, the pieces before are performed.
abbrev pub SubmitsGroup : {D : Type 0} → DiskModel D → List ℕ → Input
    → StoreView D → StoreView D → Unwritten → Unwritten → Result (Unit {0}) SessionFault → Type 0
SubmitsGroup model bytes input old new before after (Ok done) =
    IsSound input × (before.tally.documents < after.tally.documents)
    × GathersPieces model bytes (ahead input) old new before after
SubmitsGroup model bytes input old new before after (Err f) =
    ((f ≡ fault.OutOfMemory) × (further : List ℕ) × GathersPieces model bytes further old new before after)
    ⊎ ((f ≡ fault.Device) × BreaksOff model bytes before.limit old new)

-- ---- what holds before a group, and after it

-- the store is open, a piece is in hand, and there is room for the answers to all that was read
pub record CanTakeGroup {D : Type 0} (model : DiskModel D) (store : StoreView D) (input : Input) (answers : Unwritten)
    : Type 0 where
  pub sound : store.reopen ≡ false
  pub means : MeansPrefixes model store
  pub piece : IsAtPiece input
  pub no_last : answers.last ≡ None
  pub room : HasRoomFor answers (length (piece_or_rest input ++ ahead input)) (bytes_read input)

-- nothing more was read, and there is room for the answers to what is left
pub record CanGoOn (old new : Input) (answers : Unwritten) : Type 0 where
  pub read : bytes_read new ≡ bytes_read old
  pub less : length (ahead new) ≤ length (ahead old)
  pub room : HasRoomFor answers (length (ahead new)) (bytes_read new)

-- ---- answers that are written

-- the bytes begin with pieces that ask for these requests, and all their answers are written
pub record SendsAnswers (held written : Option (List ℕ)) (bytes further : List ℕ) (start : Stored)
    (requests : List Request) (before after : Unwritten) : Type 0 where
  pub takes : TakesUp bytes further requests
  pub out : Appends held written (output start requests)
  pub short : length (output start requests) ≤ length requests * answer_limit
  pub documents : after.tally.documents ≡ before.tally.documents + length requests
  pub accepted : after.tally.accepted ≡ before.tally.accepted + length (accepted_commands start requests)
  pub refused : after.tally.refused ≡ before.tally.refused + refusals start requests
  pub sent : after.written ≡ before.written + length (output start requests)

-- and only so many bytes are written, with those of the answers before
pub record CutsSending (held written : Option (List ℕ)) (bytes : List ℕ) (start : Stored) (requests : List Request)
    (sent total : ℕ) : Type 0 where
  pub further : List ℕ
  pub takes : TakesUp bytes further requests
  pub short : length (output start requests) ≤ length requests * answer_limit
  pub count : ℕ
  pub is : total ≡ sent + count
  pub cut : count < length (output start requests)
  pub out : Appends held written (take count (output start requests))

-- the pieces are performed, flushed and answered
pub record PassesGroup {D : Type 0} (model : DiskModel D) (held written : Option (List ℕ)) (had has : List Handing)
    (bytes further : List ℕ) (old new : StoreView D) (before after : Unwritten) : Type 0 where
  pub requests : List Request
  pub some : requests ≡ [] → ⊥
  pub performs : PerformsFlushed model old new requests
  pub sends : SendsAnswers held written bytes further (stored_of old) requests before after
  pub hands : HandsOut had has (model.moment new.disk) (length (output (stored_of old) requests))

-- the pieces are performed and flushed, and so many bytes were written, with those of the answers before
pub record CutsGroup {D : Type 0} (model : DiskModel D) (held written : Option (List ℕ)) (had has : List Handing)
    (bytes : List ℕ) (limit : ℕ) (old new : StoreView D) (sent total : ℕ) : Type 0 where
  pub requests : List Request
  pub single : limit ≡ 0 → length requests ≤ 1
  pub performs : PerformsFlushed model old new requests
  pub cuts : CutsSending held written bytes (stored_of old) requests sent total
  pub hands : HandsOut had has (model.moment new.disk) (length (output (stored_of old) requests))

-- what became of a group: if memory ran out, nothing was done, or the pieces before are performed, flushed and answered
abbrev pub PerformsGroup : {D : Type 0} → DiskModel D → Option (List ℕ) → Option (List ℕ) → List Handing
    → List Handing → List ℕ → Input → StoreView D → StoreView D → Unwritten → Unwritten
    → Result (Unit {0}) SessionFault → Type 0
PerformsGroup model held written had has bytes input old new before after (Ok done) =
    IsSound input × (unwritten_bytes after ≡ []) × (after.last ≡ None) × (after.limit ≡ before.limit)
    × PassesGroup model held written had has bytes (ahead input) old new before after
PerformsGroup model held written had has bytes input old new before after (Err fault.OutOfMemory) =
    ((new ≡ old) × Keeps held written × (has ≡ had))
    ⊎ ((further : List ℕ) × PassesGroup model held written had has bytes further old new before after)
PerformsGroup model held written had has bytes input old new before after (Err fault.Device) =
    BreaksOff model bytes before.limit old new × Keeps held written × (has ≡ had)
PerformsGroup model held written had has bytes input old new before after (Err (fault.Write total)) =
    CutsGroup model held written had has bytes before.limit old new before.written total
PerformsGroup model held written had has bytes input old new before after (Err fault) = ⊥
