-- The faults of a command on a state, and what a store makes of them.
use Rattle.std.{proofs.Common.{◌≡◌, ◌⊎◌, inl, inr, refl, subst}, specs.Prelude.Err}
use Rattle.conf_store.proofs.Prelude.{Command, Contents, step, IsRefusal, StoreFault, EmptyBatch, BadName, NoConfig, Path, Read, TooDeep}
use Rattle.conf_store.proofs.Prelude.{ConfigLarge, StoreFull, RecordLong, JournalLong, CountFull, Reopen, Device, OutOfMemory, Room}
use Rattle.conf_store.specs.{View.StoreView, Accepting.IsOfState, Calls.{outcome, journal_length, RefusesCommand}}

-- a step refuses for the command and the state alone
abbrev pub StepsRefuse : Type 0
StepsRefuse = (s : Contents) (command : Command) (room : Room) (fault : StoreFault) → step s command room ≡ Err fault → IsRefusal fault

-- a fault with which a step refuses is one of the state
pub of-state : StepsRefuse → (s : Contents) (command : Command) (room : Room) (fault : StoreFault)
    → (fault ≡ OutOfMemory) ⊎ (step s command room ≡ Err fault) → IsOfState fault
of-state refuse s command room fault (inl memory) = (λ same. cc (memory, same), λ same. cc (memory, same))
of-state refuse s command room fault (inr e) =
    (λ same. subst IsRefusal same (refuse s command room fault e), λ same. subst IsRefusal same (refuse s command room fault e))

-- and a store returns that fault
pub refusal-returned : {D : Type 0} (old new : StoreView D) (command : Command) (fault : StoreFault) → IsOfState fault
    → (fault ≡ OutOfMemory) ⊎ (outcome (journal_length old) old.state command ≡ Err fault)
    → RefusesCommand old command new fault
refusal-returned old new command Reopen own is = tt
refusal-returned old new command Device own is = absurd (own.1 refl)
refusal-returned old new command OutOfMemory own is = tt
refusal-returned old new command EmptyBatch own (inr e) = e
refusal-returned old new command BadName own (inr e) = e
refusal-returned old new command NoConfig own (inr e) = e
refusal-returned old new command (Path fault) own (inr e) = e
refusal-returned old new command (Read fault) own (inr e) = e
refusal-returned old new command TooDeep own (inr e) = e
refusal-returned old new command ConfigLarge own (inr e) = e
refusal-returned old new command StoreFull own (inr e) = e
refusal-returned old new command RecordLong own (inr e) = e
refusal-returned old new command JournalLong own (inr e) = e
refusal-returned old new command CountFull own (inr e) = e
refusal-returned old new command EmptyBatch own (inl memory) = absurd (cc memory)
refusal-returned old new command BadName own (inl memory) = absurd (cc memory)
refusal-returned old new command NoConfig own (inl memory) = absurd (cc memory)
refusal-returned old new command (Path fault) own (inl memory) = absurd (cc memory)
refusal-returned old new command (Read fault) own (inl memory) = absurd (cc memory)
refusal-returned old new command TooDeep own (inl memory) = absurd (cc memory)
refusal-returned old new command ConfigLarge own (inl memory) = absurd (cc memory)
refusal-returned old new command StoreFull own (inl memory) = absurd (cc memory)
refusal-returned old new command RecordLong own (inl memory) = absurd (cc memory)
refusal-returned old new command JournalLong own (inl memory) = absurd (cc memory)
refusal-returned old new command CountFull own (inl memory) = absurd (cc memory)
