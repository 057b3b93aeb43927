-- What the code's requests and replies are, and what one request does.
use Rattle.std.specs.Prelude.{◌≡◌, ◌≤◌, ℕ, true, false, List, [], ◌∷◌, ◌++◌, length, string_bytes, Result, Ok, Err, IsErrOf}
use Rattle.conf_session.specs.Prelude.{framed_text_bytes, Folder, bytes_under, DiskModel, LeavesOnly, Store, Command, Contents, HasFailed}
use Rattle.conf_session.specs.Prelude.{MeansPrefix, HasFlushed, AllImagesAfterPrefix, staged_text, StoreView, StoreFault, ConditionFault}
use Rattle.conf_session.specs.declared.{fault.SessionFault.{SessionFault, TheVariants.{OutOfMemory, Device}}, words.Refusal.Refusal}
use Rattle.conf_session.specs.{declared.reply.Reply.{Reply, TheVariants.{Accepted, Done, Refused}}, Runs.stored_of, Requests.Request}
use Rattle.conf_session.specs.{Requests.{changing, checkpointing, if_met}, Answers.{Stored, answered, condition_answered, answer_bytes}}
use Rattle.conf_session.specs.Answers.{answer_limit, refusal, word, stored_after, file_after, staged_after, accepted_command, refused_of}
use Rattle.conf_session.specs.Answers.{flushed_after, waiting_after, stored_after_all, file_after_all, staged_after_all, accepted_commands}
use Rattle.conf_state.specs.declared.command.Command as code_command

-- a request that changes nothing
abbrev pub OnlyReads : Request → Type 0
OnlyReads (changing command) = ⊥
OnlyReads checkpointing = ⊥
OnlyReads (if_met conditions request) = ⊥
OnlyReads request = Unit {0}

-- the bytes of the answer that a reply holds
abbrev pub reply_bytes : Reply → List ℕ
reply_bytes (Accepted text) = string_bytes text
reply_bytes (Done text) = string_bytes text
reply_bytes (Refused reason) = framed_text_bytes (refusal (word reason))

-- the reply to a request that is refused, or the fault that ends the session
abbrev pub refused_as : Result Refusal SessionFault → Result Reply SessionFault
refused_as (Ok reason) = Ok (Refused reason)
refused_as (Err fault) = Err fault

-- a fault that ends the session, and else the other reply
abbrev pub unmet_after : Result Refusal SessionFault → Result Reply SessionFault → Result Reply SessionFault
unmet_after (Ok reason) reply = reply
unmet_after (Err end) reply = Err end

-- the reply to a command that was read and one of whose conditions fails, or the fault that ends the session
abbrev pub unmet_as : Result code_command.Command StoreFault → ConditionFault → Result Reply SessionFault
unmet_as (Ok command) fault = refused_as (condition_answered fault)
unmet_as (Err why) fault = unmet_after (answered why) (refused_as (condition_answered fault))

-- how many commands that change the state a reply accepts: 1 or 0
abbrev pub accepts : Reply → ℕ
accepts (Accepted text) = 1
accepts reply = 0

-- how many requests a reply refuses: 1 or 0
abbrev pub refuses : Reply → ℕ
refuses (Refused reason) = 1
refuses reply = 0

-- whatever a crash leaves now means the state after a prefix of the commands that wait
abbrev pub LeavesPrefixes : Folder → Contents → Type 0
LeavesPrefixes folder s =
    (flushed : Contents) (waiting : List Command) → HasFlushed folder flushed waiting s
    → AllImagesAfterPrefix folder flushed waiting

-- A request is performed: the state, the lengths and the files are those after it. A crash leaves the state after a
-- prefix of the commands that waited and of this one. Nothing is flushed, but by a checkpoint, or by a command that
-- renews the file.
pub record Performs {D : Type 0} (model : DiskModel D) (old new : StoreView D)
    (request : Request) : Type 0 where
  pub state : new.state ≡ (stored_after (stored_of old) request).state
  pub stored : new.reopen ≡ false → stored_of new ≡ stored_after (stored_of old) request
  pub reads : model.honest → new.reopen ≡ false
      → bytes_under (model.folder new.disk) Store
      ≡ file_after (bytes_under (model.folder old.disk) Store) (stored_of old) request
  pub stages : model.honest → new.reopen ≡ false
      → staged_text (model.folder new.disk) new.staged
      ≡ staged_after (staged_text (model.folder old.disk) old.staged) (stored_of old) request
  pub any_moment : model.honest → (flushed : Contents) (waiting : List Command)
      → HasFlushed (model.folder old.disk) flushed waiting old.state
      → LeavesOnly model old.disk new.disk
      (λ image. MeansPrefix flushed (waiting ++ accepted_command (stored_of old) request) image)
  pub waits : model.honest → new.reopen ≡ false → (flushed : Contents) (waiting : List Command)
      → HasFlushed (model.folder old.disk) flushed waiting old.state
      → HasFlushed (model.folder new.disk) (flushed_after false (stored_of old) flushed (request ∷ []))
      (waiting_after false (stored_of old) waiting (request ∷ [])) new.state

-- The requests are performed, one after the other.
pub record PerformsAll {D : Type 0} (model : DiskModel D) (old new : StoreView D)
    (requests : List Request) : Type 0 where
  pub sound : new.reopen ≡ false
  pub stored : stored_of new ≡ stored_after_all (stored_of old) requests
  pub reads : model.honest → bytes_under (model.folder new.disk) Store
      ≡ file_after_all (bytes_under (model.folder old.disk) Store) (stored_of old) requests
  pub stages : model.honest → staged_text (model.folder new.disk) new.staged
      ≡ staged_after_all (staged_text (model.folder old.disk) old.staged) (stored_of old) requests
  pub any_moment : model.honest → (flushed : Contents) (waiting : List Command)
      → HasFlushed (model.folder old.disk) flushed waiting old.state
      → LeavesOnly model old.disk new.disk
      (λ image. MeansPrefix flushed (waiting ++ accepted_commands (stored_of old) requests) image)
  pub waits : model.honest → (flushed : Contents) (waiting : List Command)
      → HasFlushed (model.folder old.disk) flushed waiting old.state
      → HasFlushed (model.folder new.disk) (flushed_after false (stored_of old) flushed requests)
      (waiting_after false (stored_of old) waiting requests) new.state

-- the answer to the request
pub record Replies (now : Stored) (request : Request) (reply : Reply) : Type 0 where
  pub bytes : reply_bytes reply ≡ answer_bytes now request
  pub accepted : accepts reply ≡ length (accepted_command now request)
  pub refused : refuses reply ≡ refused_of now request
  pub short : length (answer_bytes now request) ≤ answer_limit

-- What became of a request. Nothing is flushed, but by a checkpoint, or by a command that renews the file. If memory ran
-- out, nothing was changed.
abbrev pub Did : {D : Type 0} → DiskModel D → StoreView D → StoreView D → Request → Result Reply SessionFault → Type 0
Did model old new request (Ok reply) =
    Replies (stored_of old) request reply × (new.reopen ≡ false) × Performs model old new request
Did model old new request (Err Device) = (new.reopen ≡ true) × Performs model old new request
Did model old new request (Err OutOfMemory) = new ≡ old
Did model old new request (Err fault) = ⊥

-- What became of a request for which `Asked` holds. If memory ran out, nothing was changed, and the request may be
-- unknown.
abbrev pub DidAsked : {D : Type 0} → DiskModel D → StoreView D → StoreView D → (Request → Type 0)
    → Result Reply SessionFault → Type 0
DidAsked model old new Asked (Ok reply) =
    (request : Request) × Asked request × Did model old new request (Ok reply)
DidAsked model old new Asked (Err Device) =
    (request : Request) × Asked request × Did model old new request (Err Device)
DidAsked model old new Asked (Err OutOfMemory) = new ≡ old
DidAsked model old new Asked (Err fault) = ⊥

-- ---- what each call on a store says

-- Unless the store has to be opened again, whatever a crash leaves now means the state after a prefix of what waits.
abbrev pub MeansPrefixes : {D : Type 0} → DiskModel D → StoreView D → Type 0
MeansPrefixes model seen =
    model.honest → seen.reopen ≡ false → LeavesPrefixes (model.folder seen.disk) seen.state

-- `Device` is told only where the device has failed in the meantime, and its failures never become fewer.
pub record CountsFailures {T D : Type 0} (model : DiskModel D) (old new : StoreView D)
    (result : Result T SessionFault) : Type 0 where
  pub cause : IsErrOf result Device → HasFailed (model.failure_count old.disk) (model.failure_count new.disk)
  pub risen : model.failure_count old.disk ≤ model.failure_count new.disk

-- what a call did that makes the reply to a request for which `Asked` holds
pub record Handles {D : Type 0} (model : DiskModel D) (old new : StoreView D) (Asked : Request → Type 0)
    (result : Result Reply SessionFault) : Type 0 where
  pub did : old.reopen ≡ false → DidAsked model old new Asked result
  pub failures : CountsFailures model old new result
