-- What a round has answered and stored, for each of its results.
use Rattle.std.specs.Prelude.{◌≡◌, ◌⊎◌, ℕ, ◌+◌, ◌-◌, ◌<◌, false, true, List, [], ◌∷◌, ◌++◌, length, take, map, Result, Ok, Err}
use Rattle.std.specs.declared.{vec.Vec.Vec, alloc.Global.Global}
use Rattle.conf_session.specs.Prelude.{ClosesOnce, bytes_under, Image, IsImage, DiskModel, LeavesOnly, Store, Command, Contents}
use Rattle.conf_session.specs.{Prelude.{MeansPrefix, AllImagesMean, HasFlushed, staged_text, StoreView}, Answers.answer_bytes as answer_to}
use Rattle.conf_session.specs.Answers.{Stored, answers, stored_after_all, file_after_all, staged_after_all, accepted_commands}
use Rattle.conf_session.specs.{Answers.{flushed_after, waiting_after}, Runs.{AfterAtLeast, stored_of}, Replies.Performs}
use Rattle.conf_session.specs.{declared.{fault.SessionFault.SessionFault, rounds.{Piece.Piece, RoundFault.RoundFault}}, Requests.Request}
use Rattle.conf_session.specs.Requests.{bad, Asks}
use Rattle.conf_session.specs.declared.fault.SessionFault.TheVariants as session
use Rattle.conf_session.specs.declared.rounds.RoundFault.TheVariants as fault

-- the bytes of each piece
abbrev pub piece_bytes : List Piece → List (List ℕ)
piece_bytes pieces = map (λ (piece : Piece). piece.bytes.items) pieces

-- the bytes of each answer
abbrev pub answer_bytes : List (Vec ℕ Global) → List (List ℕ)
answer_bytes answers = map (λ (answer : Vec ℕ Global). answer.items) answers

-- What the bytes of a piece ask for. Bytes that aren't closed once, at their end, are no command.
abbrev pub RoundAsks : List ℕ → Request → Type 0
RoundAsks bytes request = (ClosesOnce bytes × Asks bytes request) ⊎ ((ClosesOnce bytes → ⊥) × (request ≡ bad))

-- the pieces ask for these requests, one for each in its place
abbrev pub AllRoundAsk : List (List ℕ) → List Request → Type 0
AllRoundAsk [] [] = Unit {0}
AllRoundAsk [] (request ∷ requests) = ⊥
AllRoundAsk (piece ∷ pieces) [] = ⊥
AllRoundAsk (piece ∷ pieces) (request ∷ requests) = RoundAsks piece request × AllRoundAsk pieces requests

-- these requests are performed, one after the other
pub record RoundPerforms {D : Type 0} (model : DiskModel D) (old new : StoreView D)
    (requests : List Request) : Type 0 where
  pub stored : stored_of new ≡ stored_after_all (stored_of old) requests
  pub reads : model.honest → bytes_under (model.folder new.disk) Store
      ≡ file_after_all (bytes_under (model.folder old.disk) Store) (stored_of old) requests
  pub stages : model.honest → staged_text (model.folder new.disk) new.staged
      ≡ staged_after_all (staged_text (model.folder old.disk) old.staged) (stored_of old) requests

-- all pieces are performed, answered and flushed
pub record EndsFlushed {D : Type 0} (model : DiskModel D) (old new : StoreView D) (count : ℕ)
    (requests : List Request) (written : List (List ℕ)) : Type 0 where
  pub all : length requests ≡ count
  pub performs : RoundPerforms model old new requests
  pub answers : written ≡ answers (stored_of old) requests
  pub flushed : model.honest → HasFlushed (model.folder new.disk) new.state [] new.state
  pub now : model.honest → AllImagesMean (model.folder new.disk) new.state

-- So many pieces are performed, from the first. Those up to the last checkpoint among them, or the last command that
-- renewed the file, are flushed.
pub record EndsWaiting {D : Type 0} (model : DiskModel D) (old new : StoreView D) (count : ℕ)
    (requests : List Request) : Type 0 where
  pub all : length requests ≡ count
  pub performs : RoundPerforms model old new requests
  pub waits : model.honest → (flushed : Contents) (waiting : List Command)
      → HasFlushed (model.folder old.disk) flushed waiting old.state
      → HasFlushed (model.folder new.disk) (flushed_after false (stored_of old) flushed requests)
      (waiting_after false (stored_of old) waiting requests) new.state

-- What the device failed at, after these requests: the next one, or, after all, the flush of what they submitted.
abbrev pub FailsAfter : ℕ → List Request → List Request → Type 0
FailsAfter count before [] = length before ≡ count
FailsAfter count before (last ∷ []) = length before < count
FailsAfter count before (last ∷ other ∷ more) = ⊥

-- How many commands no crash takes away once these requests are performed, of those that waited and those that are
-- accepted: all up to the last checkpoint, or the last one that renewed the file.
abbrev pub checkpointed : Stored → List Command → List Request → ℕ
checkpointed now waiting requests =
    length (waiting ++ accepted_commands now requests) - length (waiting_after false now waiting requests)

-- The device failed. No piece is answered. The state has the piece in hand, if there is one. A crash leaves the state
-- after a prefix of the commands, which has at least those up to the last checkpoint among the pieces before that one, or
-- up to the last command among them that renewed the file.
pub record EndsBroken {D : Type 0} (model : DiskModel D) (old new : StoreView D) (count : ℕ)
    (requests : List Request) : Type 0 where
  pub before : List Request
  pub last : List Request
  pub all : requests ≡ before ++ last
  pub fails : FailsAfter count before last
  pub state : new.state ≡ (stored_after_all (stored_of old) requests).state
  pub kept : model.honest → (flushed : Contents) (waiting : List Command)
      → HasFlushed (model.folder old.disk) flushed waiting old.state
      → (image : Image) → IsImage (model.folder new.disk) image
      → AfterAtLeast flushed (checkpointed (stored_of old) waiting before)
      (waiting ++ accepted_commands (stored_of old) requests) image

-- How a round of `count` pieces ends, by its result. `requests` are those of the pieces that were taken up, from the
-- first.
abbrev pub RoundEnds : {D : Type 0} → DiskModel D → StoreView D → StoreView D → ℕ → List Request
    → Result (Vec (Vec ℕ Global) Global) RoundFault → Type 0
RoundEnds model old new count requests (Ok written) =
    EndsFlushed model old new count requests (answer_bytes written.items)
RoundEnds model old new count requests (Err (fault.OutOfMemory performed)) =
    EndsWaiting model old new performed requests
RoundEnds model old new count requests (Err fault.Device) = EndsBroken model old new count requests
RoundEnds model old new count requests (Err fault.Reopen) = requests ≡ []

-- A round from one value of a store to the next. `flushed` is the state that is flushed at its start, and `waiting` are
-- the commands that were submitted since.
pub record Rounds {D : Type 0} (model : DiskModel D) (old new : StoreView D) (pieces : List (List ℕ))
    (result : Result (Vec (Vec ℕ Global) Global) RoundFault) : Type 0 where
  pub requests : List Request
  pub ask : AllRoundAsk (take (length requests) pieces) requests
  pub ends : RoundEnds model old new (length pieces) requests result
  -- a crash at any moment leaves the state after a prefix of the commands that waited and of the accepted ones
  pub any_moment : model.honest → old.reopen ≡ false → (flushed : Contents) (waiting : List Command)
      → HasFlushed (model.folder old.disk) flushed waiting old.state
      → LeavesOnly model old.disk new.disk
      (λ image. MeansPrefix flushed (waiting ++ accepted_commands (stored_of old) requests) image)

-- ---- one piece of a round

-- why a round ends at a piece, where so many are performed
abbrev pub round_fault : SessionFault → ℕ → RoundFault
round_fault session.OutOfMemory performed = fault.OutOfMemory performed
round_fault session.Device performed = fault.Device
round_fault other performed = fault.Reopen

-- a piece is performed
pub record TakesPiece {D : Type 0} (model : DiskModel D) (old new : StoreView D) (piece : List ℕ) : Type 0 where
  pub request : Request
  pub asks : RoundAsks piece request
  pub performs : Performs model old new request

-- a piece is performed, and its answer is appended to the others
pub record AnswersPiece {D : Type 0} (model : DiskModel D) (old new : StoreView D) (piece : List ℕ)
    (before after : List (List ℕ)) : Type 0 where
  pub takes : TakesPiece model old new piece
  pub sound : new.reopen ≡ false
  pub answered : after ≡ before ++ answer_to (stored_of old) takes.request ∷ []

-- What became of a piece that has no answer, after so many others. Where memory ran out, it may be performed.
abbrev pub FailsPiece : {D : Type 0} → DiskModel D → StoreView D
    → StoreView D → List ℕ → ℕ → RoundFault → Type 0
FailsPiece model old new piece count (fault.OutOfMemory performed) =
    ((performed ≡ count) × (new ≡ old))
    ⊎ ((performed ≡ count + 1) × (new.reopen ≡ false) × TakesPiece model old new piece)
FailsPiece model old new piece count fault.Device =
    (new.reopen ≡ true) × TakesPiece model old new piece
FailsPiece model old new piece count fault.Reopen = ⊥
