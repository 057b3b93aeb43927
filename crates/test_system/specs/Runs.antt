-- What the machine was while calls were made.
use Rattle.std.{specs.{Prelude.{◌≡◌, ℕ, ◌≤◌, List, length, take, Option, Some, None}, Coded.Π_prop}, proofs.Common.{sym, ◌∙◌, ap, subst}}
use Rattle.std.proofs.{Common.arith, lemmas.List.take_all, Props.props}
use Rattle.{conf_disk.specs.Image.{IsMade, IsApartFrom}, conf_system.specs.{Machine.Machine, Crash.IsSound}, test_system.specs.Replay.Entry}
use Rattle.test_system.specs.Replay.{machine_after, new_machine}

-- after each of the calls the machine is sound
abbrev pub IsAlwaysSound : List Entry → Type 0
IsAlwaysSound entries = (count : ℕ) → IsSound (machine_after (take count entries) new_machine)

IsMade-prop : (count : ℕ) (place : Option ℕ) → IsProp (IsMade count place)
IsMade-prop count None = hlevel props
IsMade-prop count (Some id) = hlevel props

IsApartFrom-prop : (next store : Option ℕ) → IsProp (IsApartFrom next store)
IsApartFrom-prop None store = hlevel props
IsApartFrom-prop (Some id) None = hlevel props
IsApartFrom-prop (Some id) (Some other) = hlevel props

IsSound-prop : (m : Machine) → IsProp (IsSound m)
IsSound-prop m = hlevel (IsMade-prop, IsApartFrom-prop, props)

pub IsAlwaysSound-prop : (entries : List Entry) → IsProp (IsAlwaysSound entries)
IsAlwaysSound-prop entries = Π_prop (λ count. IsSound-prop (machine_after (take count entries) new_machine))

pub sound_now : (entries : List Entry) → IsAlwaysSound entries → IsSound (machine_after entries new_machine)
sound_now entries sound =
    subst (λ (l : List Entry). IsSound (machine_after l new_machine)) (take_all (length entries) entries (omega arith))
    (sound (length entries))

-- it was this machine when so many of the calls were made, or more
pub record WasSince (entries : List Entry) (t : ℕ) (m : Machine) : Type 0 where
  pub count : ℕ
  pub since : t ≤ count
  pub until : count ≤ length entries
  pub is : m ≡ machine_after (take count entries) new_machine

pub was_now : (entries : List Entry) (t : ℕ) → t ≤ length entries → WasSince entries t (machine_after entries new_machine)
was_now entries t le = record {
  count = length entries;
  since = le;
  until = omega arith;
  is = ap (λ (l : List Entry). machine_after l new_machine) (sym (take_all (length entries) entries (omega arith)));
}

pub was_only_now : (entries : List Entry) (m : Machine) → WasSince entries (length entries) m
    → m ≡ machine_after entries new_machine
was_only_now entries m was =
    was.is ∙ ap (λ (l : List Entry). machine_after l new_machine) (take_all was.count entries was.since)
