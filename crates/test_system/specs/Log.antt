-- The calls that a system keeps.
use Rattle.std.specs.Prelude.{◌≡◌, ◌⊎◌, ℕ, List, [], ◌∷◌, ◌++◌, Option}
use Rattle.{conf_system.specs.Machine.{Machine, Call}, test_system.specs.Replay.{Entry, Called, entries_of, machine_after, machine_made}}
use Rattle.test_system.specs.{Replay.new_machine, Spares.spare_entry, declared.{log.CallLog.CallLog, spares.Spare.Spare}}

abbrev pub entries : CallLog → List Entry
entries log = entries_of log.calls

abbrev pub machine_now : CallLog → Machine
machine_now log = machine_after (entries log) new_machine

-- with one call more
abbrev pub then : List Entry → Call → Option ℕ → List Entry
then entries call failed = entries ++ Called call failed ∷ []

-- it is kept, unless it changes nothing
abbrev pub KeepsSpare : Spare → CallLog → CallLog → Type 0
KeepsSpare spare old new = (entries new ≡ entries old ++ spare_entry spare ∷ [])
    ⊎ ((entries new ≡ entries old) × (machine_made (spare_entry spare) (machine_now old) ≡ machine_now old))
