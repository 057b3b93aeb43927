-- What a run of a session has read, answered and stored, for each of its results.
use Rattle.std.specs.Prelude.{◌≡◌, ℕ, ◌+◌, ◌*◌, ◌<◌, ◌≤◌, true, false, List, [], ◌∷◌, ◌++◌, length, take, option_map, Result, Ok, Err, All}
use Rattle.conf_session.specs.Prelude.{concat, Consumes, IsAtEnd, Keeps, Appends, ClosesOnce, Pieces, bytes_under, Image, IsImage}
use Rattle.conf_session.specs.Prelude.{DiskModel, LeavesOnly, Store, Command, Contents, after, MeansPrefix, HasFlushed, staged_text}
use Rattle.conf_session.specs.{Prelude.StoreView, Said.piece_limit, Input.{session_limit, IsOverlong}}
use Rattle.conf_session.specs.{declared.{fault.SessionFault.SessionFault, session.Tally.Tally}, Requests.{Request, AllAsk}, Streams.Streams}
use Rattle.conf_session.specs.{Handings.{Handings, HoldsSince, accepted_within, taken_in}, Answers.{Stored, answer_limit, output}}
use Rattle.conf_session.specs.Answers.{stored_after_all, file_after_all, staged_after_all, accepted_commands, refusals, flushed_after}
use Rattle.{conf_session.specs.Answers.{waiting_after, acknowledged}, conf_store.specs.{Meaning.ImageMeans, Staged.Staged}}
use Rattle.conf_session.specs.declared.fault.SessionFault.TheVariants as fault

-- the state of a store, the length of its file, that of the new file of a running checkpoint, and the format of the base
abbrev pub stored_of : {D : Type 0} → StoreView D → Stored
stored_of seen = record {
  state = seen.state;
  size = seen.size;
  staged = option_map (λ (s : Staged). s.written + length s.left) seen.staged;
  format = seen.format;
}

-- the pieces ask for these requests; each is closed once, at its end, and no longer than allowed
pub record ArePieces (pieces : List (List ℕ)) (requests : List Request) : Type 0 where
  pub closed : All ClosesOnce pieces
  pub short : All (λ (piece : List ℕ). length piece ≤ piece_limit) pieces
  pub ask : AllAsk pieces requests

-- the bytes are pieces that ask for these requests, and a rest without a closing line, no longer than allowed
pub record IsInput (bytes : List ℕ) (requests : List Request) (rest : List ℕ) : Type 0 where
  pub pieces : List (List ℕ)
  pub cut : Pieces bytes pieces rest
  pub are : ArePieces pieces requests
  pub short : length rest ≤ piece_limit

-- the bytes begin with pieces that ask for these requests; what is left after them are the further bytes
pub record TakesUp (bytes further : List ℕ) (requests : List Request) : Type 0 where
  pub pieces : List (List ℕ)
  pub joined : bytes ≡ concat pieces ++ further
  pub are : ArePieces pieces requests

-- the same, whatever is left
pub record BeginsWith (bytes : List ℕ) (requests : List Request) : Type 0 where
  pub further : List ℕ
  pub takes : TakesUp bytes further requests

-- after pieces that ask for these requests comes a piece, or a rest, that is too long
pub record ShowsTooLong (bytes : List ℕ) (requests : List Request) : Type 0 where
  pub begins : BeginsWith bytes requests
  pub overlong : IsOverlong begins.further

-- all closed pieces of the bytes ask for these requests
pub record AsksAll (bytes : List ℕ) (requests : List Request) : Type 0 where
  pub rest : List ℕ
  pub input : IsInput bytes requests rest

-- all closed pieces of the first 1,073,741,824 bytes ask for these requests, and there are more bytes
pub record ShowsSessionLong (bytes : List ℕ) (requests : List Request) : Type 0 where
  pub input : AsksAll (take session_limit bytes) requests
  pub long : session_limit < length bytes

-- ---- how a run ends, by the requests that were answered and the bytes of their answers

-- all was read and answered
pub record EndsWell (io : Streams) (answered : List Request) (answers : List ℕ)
    (accepted refused : ℕ) (tally : Tally) : Type 0 where
  pub bytes : List ℕ
  pub rest : List ℕ
  pub taken : Consumes io.given io.left bytes
  pub at_end : IsAtEnd io.left
  pub within : length bytes ≤ session_limit
  pub input : IsInput bytes answered rest
  pub out : Appends io.held io.written answers
  pub documents : tally.documents ≡ length answered
  pub accepts : tally.accepted ≡ accepted
  pub refuses : tally.refused ≡ refused
  pub unclosed : tally.rest ≡ length rest

-- all pieces that were closed before the fault are answered
pub record EndsInInput (io : Streams) (answered : List Request) (answers : List ℕ)
    (Shows : List ℕ → List Request → Type 0) : Type 0 where
  pub bytes : List ℕ
  pub taken : Consumes io.given io.left bytes
  pub shows : Shows bytes answered
  pub out : Appends io.held io.written answers

-- a prefix of the pieces is answered, and so many after them aren't
pub record EndsEarly (io : Streams) (answered unanswered : List Request)
    (answers : List ℕ) : Type 0 where
  pub bytes : List ℕ
  pub taken : Consumes io.given io.left bytes
  pub begins : BeginsWith bytes (answered ++ unanswered)
  pub out : Appends io.held io.written answers

-- Exactly so many bytes of the answers were written, at most the limit of an answer for each piece. The first piece
-- whose answer was not written whole is performed, and none after it.
pub record EndsInOutput (io : Streams) (start : Stored)
    (answered performed : List Request) (count : ℕ) : Type 0 where
  pub bytes : List ℕ
  pub taken : Consumes io.given io.left bytes
  pub last : Request
  pub begins : BeginsWith bytes (answered ++ last ∷ [])
  pub all : performed ≡ answered ++ last ∷ []
  pub out : Appends io.held io.written (take count (output start performed))
  pub whole : length (output start answered) ≤ count
  pub cut : count < length (output start performed)
  pub bound : count ≤ length performed * answer_limit

-- How a session ends that answered all that it performed, by its result. `given` and `left` are what the reader has
-- before and after, `held` and `written` what the writer has, where they are known.
abbrev pub EndsAnswered : Streams → List Request
    → List ℕ → ℕ → ℕ → Result Tally SessionFault → Type 0
EndsAnswered io answered answers accepted refused (Ok tally) =
    EndsWell io answered answers accepted refused tally
EndsAnswered io answered answers accepted refused (Err fault.Read) =
    EndsInInput io answered answers AsksAll
EndsAnswered io answered answers accepted refused (Err fault.TooLong) =
    EndsInInput io answered answers ShowsTooLong
EndsAnswered io answered answers accepted refused (Err fault.SessionLong) =
    EndsInInput io answered answers ShowsSessionLong
EndsAnswered io answered answers accepted refused (Err fault.OutOfMemory) =
    EndsEarly io answered [] answers
EndsAnswered io answered answers accepted refused (Err fault) = ⊥

-- How a run ends, by its result, where these requests were performed.
abbrev pub Ends : Streams → Stored → List Request
    → List Request → Result Tally SessionFault → Type 0
Ends io start answered performed (Err (fault.Write count)) =
    EndsInOutput io start answered performed count
Ends io start answered performed (Err fault.Device) =
    (last : Request) × (performed ≡ answered ++ last ∷ [])
    × EndsEarly io answered (last ∷ []) (output start answered)
Ends io start answered performed (Err fault.Reopen) =
    Keeps io.given io.left × Keeps io.held io.written × (answered ≡ []) × (performed ≡ [])
Ends io start answered performed result =
    (performed ≡ answered) × EndsAnswered io answered (output start answered)
    (length (accepted_commands start answered)) (refusals start answered) result

-- ---- a run

-- the image means the state after a prefix of the commands that has at least so many of them
pub record AfterAtLeast (s : Contents) (least : ℕ) (commands : List Command) (image : Image) : Type 0 where
  pub count : ℕ
  pub enough : least ≤ count
  pub state : Contents
  pub leads : after s (take count commands) ≡ Ok state
  pub means : ImageMeans image state

-- A run from one value of a store to the next. `flushed` is the state that is flushed at its start, and `waiting` are
-- the commands that were submitted since. At Device the store has to be opened again: `ends` says which answers were
-- handed out and which request has none, `state` has that request too, and `kept` says what no crash takes back.
-- `handings` are what the sink had taken before the run and after it.
pub record Runs {D : Type 0} (model : DiskModel D)
    (io : Streams) (handings : Handings) (old new : StoreView D)
    (result : Result Tally SessionFault) : Type 0 where
  pub answered : List Request
  pub performed : List Request
  pub ends : Ends io (stored_of old) answered performed result
  pub state : new.state ≡ (stored_after_all (stored_of old) performed).state
  pub stored : new.reopen ≡ false → stored_of new ≡ stored_after_all (stored_of old) performed
  -- each accepted command appended its record to `store.yaml` or renewed it, and each checkpoint put a base in its place
  pub reads : model.honest → new.reopen ≡ false
      → bytes_under (model.folder new.disk) Store
      ≡ file_after_all (bytes_under (model.folder old.disk) Store) (stored_of old) performed
  -- the records were appended to the new file of a running checkpoint too, unless one gave it up
  pub stages : model.honest → new.reopen ≡ false
      → staged_text (model.folder new.disk) new.staged
      ≡ staged_after_all (staged_text (model.folder old.disk) old.staged) (stored_of old) performed
  -- a crash at any moment leaves the state after a prefix of the commands that waited and of the accepted ones
  pub any_moment : model.honest → old.reopen ≡ false → (flushed : Contents) (waiting : List Command)
      → HasFlushed (model.folder old.disk) flushed waiting old.state
      → LeavesOnly model old.disk new.disk
      (λ image. MeansPrefix flushed (waiting ++ accepted_commands (stored_of old) performed) image)
  -- a crash at any moment since bytes were handed out leaves one that has every command whose answer they begin
  pub handed : handings.after ≡ handings.before ++ taken_in handings
  pub cut_off : model.honest → old.reopen ≡ false → (flushed : Contents) (waiting : List Command)
      → HasFlushed (model.folder old.disk) flushed waiting old.state
      → HoldsSince model new.disk 0 (taken_in handings) (λ bytes image.
      AfterAtLeast flushed (length waiting + accepted_within (stored_of old) performed bytes)
      (waiting ++ accepted_commands (stored_of old) performed) image)
  -- and a crash after the run leaves one that has every command that was answered
  pub kept : model.honest → old.reopen ≡ false → (flushed : Contents) (waiting : List Command)
      → HasFlushed (model.folder old.disk) flushed waiting old.state
      → (image : Image) → IsImage (model.folder new.disk) image
      → AfterAtLeast flushed (acknowledged (stored_of old) waiting answered)
      (waiting ++ accepted_commands (stored_of old) performed) image
  -- what is flushed after the run, and what waits
  pub waits : model.honest → new.reopen ≡ false → (flushed : Contents) (waiting : List Command)
      → HasFlushed (model.folder old.disk) flushed waiting old.state
      → HasFlushed (model.folder new.disk) (flushed_after true (stored_of old) flushed performed)
      (waiting_after true (stored_of old) waiting performed) new.state
