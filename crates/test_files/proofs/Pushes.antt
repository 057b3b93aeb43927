-- What is known of kept calls, when one is added.
use Rattle.std.proofs.{Common.{◌≡◌, List, [], ◌∷◌, ◌++◌, map, refl, sym, ◌∙◌, ap, subst}, lemmas.List.map-append}
use Rattle.{file_calls.specs.Machine.Machine, test_files.specs.{Replay.{Entry, entry_of, machine_after, machine_made}, Spares.IsSpent}}
use Rattle.test_files.specs.{Spares.{spend, spare_entry}, declared.{change.Made.Made, spares.{Spent.Spent, Spare.Spare}}}
use Rattle.test_files.proofs.Failures.{spare-more}

pub machine_after-push : (entries : List Entry) (x : Entry) (m : Machine)
    → machine_after (entries ++ x ∷ []) m ≡ machine_made x (machine_after entries m)
machine_after-push [] x m = refl
machine_after-push (y ∷ entries) x m = machine_after-push entries x (machine_made y m)

pub entries-pushed : (old new : List Made) (x : Made) → new ≡ old ++ x ∷ [] → map entry_of new ≡ map entry_of old ++ entry_of x ∷ []
entries-pushed old new x is = ap (map entry_of) is ∙ map-append entry_of old (x ∷ [])

pub made-pushed : (start : Machine) (old new : List Made) (x : Made) → new ≡ old ++ x ∷ []
    → machine_after (map entry_of new) start ≡ machine_made (entry_of x) (machine_after (map entry_of old) start)
made-pushed start old new x is =
    ap (λ (l : List Entry). machine_after l start) (entries-pushed old new x is)
    ∙ machine_after-push (map entry_of old) (entry_of x) start

pub spare-pushed : (spent : Spent) (a : Spare) (start : Machine) (old new : List Made) (x : Made) → new ≡ old ++ x ∷ []
    → entry_of x ≡ spare_entry a → IsSpent spent (machine_after (map entry_of old) start)
    → IsSpent (spend spent a) (machine_after (map entry_of new) start)
spare-pushed spent a start old new x is kept none =
    subst (IsSpent (spend spent a))
    (sym (made-pushed start old new x is ∙ ap (λ (e : Entry). machine_made e (machine_after (map entry_of old) start)) kept))
    (spare-more spent (machine_after (map entry_of old) start) a none)
