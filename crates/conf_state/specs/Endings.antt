-- How an edit ends that is made in a state in place, and one that is made on a draft of a state.
use Rattle.std.{specs.Prelude.{◌≡◌, ◌⊎◌, List, Result, Ok, Err, OnOk, OnErr, IfErr, refl}, proofs.Common.inr}
use Rattle.conf_state.specs.{Drafts.{drafted, IsDraftOf}, States.{Entry, Contents}, Steps.{and_then, next_state}}
use Rattle.conf_state.specs.declared.{draft.Draft.Draft, fault.StoreFault.{StoreFault, TheVariants.OutOfMemory}, room.Room.Room}

-- In a state: the next state has what the edit makes, if there is room. A refusal leaves the state.
pub record EndsInPlace (room : Room) (old : Contents) (made : Result (List Entry) StoreFault)
    (result : Result (Unit {0}) StoreFault) (new : Contents) : Type 0 where
  pub ok : OnOk result (and_then made (next_state old room) ≡ Ok new)
  pub refused : IfErr result (λ fault. (fault ≡ OutOfMemory) ⊎ (and_then made (next_state old room) ≡ Err fault))
  pub unchanged : OnErr result (new ≡ old)

-- On a draft of these configurations: it stands for what the edit makes.
pub record EndsOnDraft (es : List Entry) (old : Draft) (made : Result (List Entry) StoreFault)
    (result : Result (Unit {0}) StoreFault) (new : Draft) : Type 0 where
  pub ok : OnOk result (made ≡ Ok (drafted es new))
  pub draft : OnOk result (IsDraftOf es new)
  pub refused : IfErr result (λ fault. (fault ≡ OutOfMemory) ⊎ (made ≡ Err fault))

-- an edit that is refused before any change ends so
pub refused_in_place : (room : Room) (s : Contents) (fault : StoreFault) → EndsInPlace room s (Err fault) (Err fault) s
refused_in_place room s fault = record { ok = tt; refused = inr refl; unchanged = refl }

pub refused_on_draft : (es : List Entry) (draft : Draft) (fault : StoreFault) → EndsOnDraft es draft (Err fault) (Err fault) draft
refused_on_draft es draft fault = record { ok = tt; draft = tt; refused = inr refl }
