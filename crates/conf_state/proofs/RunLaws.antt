-- Runs of commands: what they count, and that one run is two in a row.
use Rattle.std.proofs.Common.{◌≡◌, ◌+◌, Bool, true, false, nat_le, nat_lt, if◌then◌else◌, List, [], ◌∷◌, ◌++◌, length, Result, Ok, Err}
use Rattle.std.proofs.Common.{refl, sym, ap, arith}
use Rattle.conf_state.specs.{Commands.Command, BaseTexts.base_length, declared.fault.StoreFault.{StoreFault, TheVariants.StoreFull}}
use Rattle.conf_state.specs.declared.{fault.StoreFault.TheVariants.CountFull, room.Room.{Room, TheVariants.{Enough, LongRecord, Missing}}}
use Rattle.conf_state.specs.{States.{Entry, Contents, base_limit, count_limit}, Steps.{and_then, performed, with_room, next_state, step}}
use Rattle.conf_state.specs.Steps.{after}

-- a state that is the answer of a call and of another after it
pub and_then-Ok : {A B : Type 0} (r : Result A StoreFault) (next : A → Result B StoreFault) (y : B)
    → and_then r next ≡ Ok y → (x : A) × (r ≡ Ok x) × (next x ≡ Ok y)
and_then-Ok (Ok x) next y e = (x, refl, e)
and_then-Ok (Err fault) next y e = let refused : Err fault ≡ Ok y = e in cc

next_state-one : (s new : Contents) (room : Room) (configs : List Entry) → next_state s room configs ≡ Ok new → new.count ≡ s.count + 1
next_state-one s new room configs e =
    by (nat_lt base_limit (base_length (record { configs = configs; count = s.count + 1 }))) room (nat_le count_limit s.count) e
  where
    by : (full : Bool) (room : Room) (last : Bool)
        → (if full then Err StoreFull else with_room room
        (if last then Err CountFull else Ok (record { configs = configs; count = s.count + 1 }))) ≡ Ok new
        → new.count ≡ s.count + 1
    by true room last is = cc
    by false LongRecord last is = cc
    by false Missing last is = cc
    by false Enough true is = cc
    by false Enough false is = let same : record { configs = configs; count = s.count + 1 } ≡ new = cc in sym (ap (λ t. t.count) same)

-- an accepted command counts one
pub step-one : (s new : Contents) (command : Command) (room : Room) → step s command room ≡ Ok new → new.count ≡ s.count + 1
step-one s new command room e =
    let done = and_then-Ok (performed s.configs command) (next_state s room) new e in
    next_state-one s new room done.0 done.2

-- so many commands count as many
pub after-count : (s new : Contents) (commands : List Command) → after s commands ≡ Ok new → new.count ≡ s.count + length commands
after-count s new [] e = let same : s ≡ new = cc in let counts = ap (λ t. t.count) same in omega (arith, counts)
after-count s new (command ∷ commands) e =
    let done = and_then-Ok (step s command Enough) (λ t. after t commands) new e in
    omega (arith, step-one s done.0 command Enough done.1, after-count done.0 new commands done.2)

-- a list of commands leads where its first part and then its second lead
pub after-append : (s : Contents) (first second : List Command)
    → after s (first ++ second) ≡ and_then (after s first) (λ between. after between second)
after-append s [] second = refl
after-append s (command ∷ commands) second = by (step s command Enough) (λ t. after-append t commands second)
  where
    by : (r : Result Contents StoreFault)
        → ((t : Contents) → after t (commands ++ second) ≡ and_then (after t commands) (λ between. after between second))
        → and_then r (λ t. after t (commands ++ second)) ≡ and_then (and_then r (λ t. after t commands)) (λ between. after between second)
    by (Ok t) rest = rest t
    by (Err fault) rest = refl
