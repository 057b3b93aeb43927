-- What is kept where there is no memory for a call. A sync that fails makes a file unsure, and a write that adds nothing
-- may count as one that waits, so each of these is to be kept also then.
use Rattle.std.{specs.{Prelude.{ℕ, ◌+◌, ◌≡◌, List, [], Some, Bool, true, if◌then◌else◌, ◌||◌}, Coded.{Π_prop, →_prop}}, proofs.Props.props}
use Rattle.conf_system.specs.{declared.system.FileName.TheVariants.{Store, Next, Copy}, Machine.{Machine, Sync, Write}}
use Rattle.test_system.specs.{declared.spares.{Spare.{Spare, TheVariants.{FailedSync, EmptyWrite}}, Spent.Spent}, Replay.{Entry, Called}}
use Rattle.test_system.specs.Replay.{machine_made, machine_after, new_machine}

abbrev pub spare_entry : Spare → Entry
spare_entry (FailedSync name) = Called (Sync name) (Some 0)
spare_entry EmptyWrite = Called (Write Store []) (Some 0)

abbrev pub has_spent : Spent → Spare → Bool
has_spent spent (FailedSync Store) = spent.store
has_spent spent (FailedSync Next) = spent.next
has_spent spent (FailedSync Copy) = spent.copy
has_spent spent EmptyWrite = spent.write

abbrev pub is_any_spent : Spent → Bool
is_any_spent spent = spent.store || spent.next || spent.copy || spent.write

abbrev pub spend : Spent → Spare → Spent
spend spent (FailedSync Store) = record spent { store = true }
spend spent (FailedSync Next) = record spent { next = true }
spend spent (FailedSync Copy) = record spent { copy = true }
spend spent EmptyWrite = record spent { write = true }

abbrev pub room_of : Bool → ℕ
room_of taken = if taken then 0 else 1

-- how much room is left
abbrev pub rooms : Spent → ℕ
rooms spent = room_of spent.store + room_of spent.next + room_of spent.copy + room_of spent.write

-- one whose room is taken changes nothing more
abbrev pub ChangesNothing : Spent → Machine → Type 0
ChangesNothing spent m = (spare : Spare) → has_spent spent spare ≡ true → machine_made (spare_entry spare) m ≡ m

Machine-set : IsSet Machine
Machine-set = hlevel props

ChangesNothing-prop : (spent : Spent) (m : Machine) → IsProp (ChangesNothing spent m)
ChangesNothing-prop spent m = Π_prop (λ spare. →_prop (Machine-set (machine_made (spare_entry spare) m) m))

-- so it is after these calls
abbrev pub IsSpent : Spent → List Entry → Type 0
IsSpent spent entries = ChangesNothing spent (machine_after entries new_machine)

pub IsSpent-prop : (spent : Spent) (entries : List Entry) → IsProp (IsSpent spent entries)
IsSpent-prop spent entries = ChangesNothing-prop spent (machine_after entries new_machine)
