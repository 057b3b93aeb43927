-- The calls that a system keeps.
use Rattle.std.specs.Prelude.{◌≡◌, ◌⊎◌}
use Rattle.{file_calls.specs.Machine.Machine, test_files.specs.Replay.{History, entries_of, start_of, machine_in, with_entry}}
use Rattle.test_files.specs.{Spares.{spare_entry, spared}, declared.{log.CallLog.CallLog, spares.Spare.Spare}}

abbrev pub history_of : CallLog → History
history_of log = record { first = start_of log.start; entries = entries_of log.calls }

abbrev pub machine_now : CallLog → Machine
machine_now log = machine_in (history_of log)

-- it is kept, unless it changes nothing
abbrev pub KeepsSpare : Spare → CallLog → CallLog → Type 0
KeepsSpare spare old new = (history_of new ≡ with_entry (history_of old) (spare_entry spare))
    ⊎ ((history_of new ≡ history_of old) × (spared spare (machine_now old) ≡ machine_now old))
