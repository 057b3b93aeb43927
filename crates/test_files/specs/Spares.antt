-- What is kept where there is no memory for a call. A sync that fails makes a file unsure, and a call that fails may be
-- one that a caller has to know of, so each of these is to be kept also then.
use Rattle.std.{specs.{Prelude.{ℕ, ◌+◌, ◌≡◌, Some, Bool, true, if◌then◌else◌, ◌||◌}, Coded.{Π_prop, →_prop}}, proofs.Props.props}
use Rattle.file_calls.specs.Machine.{Machine, Call, GiveGroup, SyncNew, UnlinkBeside, failing}
use Rattle.test_files.specs.{declared.spares.{Spare.{Spare, TheVariants.{FailedSync, Refused, Left}}, Spent.Spent}, Replay.Entry}

abbrev pub spare_call : Spare → Call
spare_call FailedSync = SyncNew
spare_call Refused = GiveGroup 0
spare_call Left = UnlinkBeside

abbrev pub spare_entry : Spare → Entry
spare_entry spare = record { call = spare_call spare; failed = Some 0 }

-- what it makes of the machine
abbrev pub spared : Spare → Machine → Machine
spared spare m = failing 0 (spare_call spare) m

abbrev pub has_spent : Spent → Spare → Bool
has_spent spent FailedSync = spent.sync
has_spent spent Refused = spent.refused
has_spent spent Left = spent.left

abbrev pub is_any_spent : Spent → Bool
is_any_spent spent = spent.sync || spent.refused || spent.left

abbrev pub spend : Spent → Spare → Spent
spend spent FailedSync = record spent { sync = true }
spend spent Refused = record spent { refused = true }
spend spent Left = record spent { left = true }

abbrev pub room_of : Bool → ℕ
room_of taken = if taken then 0 else 1

-- how much room is left
abbrev pub rooms : Spent → ℕ
rooms spent = room_of spent.sync + room_of spent.refused + room_of spent.left

-- one whose room is taken changes nothing more
abbrev pub IsSpent : Spent → Machine → Type 0
IsSpent spent m = (spare : Spare) → has_spent spent spare ≡ true → spared spare m ≡ m

Machine-set : IsSet Machine
Machine-set = hlevel props

pub IsSpent-prop : (spent : Spent) (m : Machine) → IsProp (IsSpent spent m)
IsSpent-prop spent m = Π_prop (λ spare. →_prop (Machine-set (spared spare m) m))
