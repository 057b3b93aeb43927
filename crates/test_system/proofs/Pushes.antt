-- What is known of kept calls, when one is added, or only memory changes.
use Rattle.std.proofs.Common.{◌≡◌, ℕ, List, [], ◌∷◌, ◌++◌, map, take, min, sym, ◌∙◌, ap, subst, arith, inl, inr, ⊎_elim, Bool, true, false}
use Rattle.std.proofs.{Common.cond, lemmas.{List.{map-append, take-map, take-take, take_all, length-take}, Bool.cases_lt}}
use Rattle.{conf_system.specs.Crash.IsSound, test_system.specs.Replay.{Entry, entry_of, machine_after, machine_made, new_machine}}
use Rattle.test_system.specs.{Replay.MayBeMade, Runs.IsAlwaysSound, Spares.{ChangesNothing, spend, spare_entry}, declared.change.Made.Made}
use Rattle.test_system.specs.{declared.{spares.{Spent.Spent, Spare.Spare}, log.CallLog.CallLog}, Log.{entries, KeepsSpare}}
use Rattle.test_system.proofs.{OneMore.{always_sound-push, made_last}, Failures.spare-more}

pub entries-pushed : (old new : List Made) (x : Made) → new ≡ old ++ x ∷ [] → map entry_of new ≡ map entry_of old ++ entry_of x ∷ []
entries-pushed old new x is = ap (map entry_of) is ∙ map-append entry_of old (x ∷ [])

pub sound-same : (old new : List Made) → new ≡ old → IsAlwaysSound (map entry_of old) → IsAlwaysSound (map entry_of new)
sound-same old new is sound = subst (λ (l : List Made). IsAlwaysSound (map entry_of l)) (sym is) sound

pub spare-same : (spent : Spent) (old new : List Made) → new ≡ old → ChangesNothing spent (machine_after (map entry_of old) new_machine)
    → ChangesNothing spent (machine_after (map entry_of new) new_machine)
spare-same spent old new is failed =
    subst (λ (l : List Made). ChangesNothing spent (machine_after (map entry_of l) new_machine)) (sym is) failed

pub sound-pushed : (old new : List Made) (x : Made) → new ≡ old ++ x ∷ []
    → MayBeMade (entry_of x) (machine_after (map entry_of old) new_machine) → IsAlwaysSound (map entry_of old)
    → IsAlwaysSound (map entry_of new)
sound-pushed old new x is may sound =
    subst IsAlwaysSound (sym (entries-pushed old new x is)) (always_sound-push (map entry_of old) (entry_of x) sound may)

pub spare-pushed : (spent : Spent) (a : Spare) (old new : List Made) (x : Made) → new ≡ old ++ x ∷ []
    → entry_of x ≡ spare_entry a → ChangesNothing spent (machine_after (map entry_of old) new_machine)
    → ChangesNothing (spend spent a) (machine_after (map entry_of new) new_machine)
spare-pushed spent a old new x is kept none =
    subst (ChangesNothing (spend spent a))
    (sym (made_last (map entry_of old) (map entry_of new) (spare_entry a)
    (entries-pushed old new x is ∙ ap (λ (e : Entry). map entry_of old ++ e ∷ []) kept)))
    (spare-more spent (machine_after (map entry_of old) new_machine) a none)

map-take : (n : ℕ) (calls : List Made) → map entry_of (take n calls) ≡ take n (map entry_of calls)
map-take n calls = sym (take-map entry_of n calls)

pub take-shorter : {X : Type 0} (n count : ℕ) (xs : List X) → take count (take n xs) ≡ take (min count n) xs
take-shorter n count xs = elim (cases_lt n count) [
  | inl lt ↦ let least : n ≡ min count n = omega (arith, lt) in
      take_all count (take n xs) (omega (arith, lt, length-take n xs)) ∙ ap (λ (k : ℕ). take k xs) least
  | inr ge ↦ let least : count ≡ min count n = omega (arith, ge) in
      take-take count n xs ge ∙ ap (λ (k : ℕ). take k xs) least
]

pub sound-first : (n : ℕ) (old new : List Made) → new ≡ take n old → IsAlwaysSound (map entry_of old) → IsAlwaysSound (map entry_of new)
sound-first n old new is sound = λ count.
    subst (λ (l : List Entry). IsSound (machine_after l new_machine))
    (sym (ap (take count) (ap (map entry_of) is ∙ map-take n old) ∙ take-shorter n count (map entry_of old)))
    (sound (min count n))

-- a kept call that failed to be kept leaves the others
pub sound-either : (old new : List Made) (x : Made) (ok : Bool) → new ≡ cond ok (old ++ x ∷ []) old
    → MayBeMade (entry_of x) (machine_after (map entry_of old) new_machine) → IsAlwaysSound (map entry_of old)
    → IsAlwaysSound (map entry_of new)
sound-either old new x true is may sound = sound-pushed old new x is may sound
sound-either old new x false is may sound = sound-same old new is sound

-- it is kept where a call before was not
pub keeps-from : (a : Spare) (old mid new : CallLog) → entries mid ≡ entries old → KeepsSpare a mid new → KeepsSpare a old new
keeps-from a old mid new same keeps =
    ⊎_elim (λ kept. inl (kept ∙ ap (λ (l : List Entry). l ++ spare_entry a ∷ []) same))
    (λ nothing. inr (
      nothing.0 ∙ same,
      subst (λ (l : List Entry). machine_made (spare_entry a) (machine_after l new_machine) ≡ machine_after l new_machine) same nothing.1,
    )) keeps
