-- What the calls that leave given files make of an empty folder, one file after the other.
use Rattle.std.specs.{Prelude.{ℕ, List, Option, Some, None}, Borrow.Bor}
use Rattle.conf_system.specs.{declared.system.FileName.TheVariants.{Next, Copy}, Machine.{Machine, after, CreateNext, CreateCopy, Write}}
use Rattle.{conf_system.specs.Machine.{Sync, RenameNext}, test_system.specs.Replay.new_machine}

abbrev pub with_next : List ℕ → Machine → Machine
with_next bytes m = after (Sync Next) (after (Write Next bytes) (after CreateNext m))

abbrev pub with_store : Option (List ℕ) → Machine
with_store None = new_machine
with_store (Some bytes) = after RenameNext (with_next bytes new_machine)

abbrev pub with_both : Option (List ℕ) → Option (List ℕ) → Machine
with_both store None = with_store store
with_both store (Some bytes) = with_next bytes (with_store store)

abbrev pub with_copy : Option (Bor (List ℕ)) → Machine → Machine
with_copy None m = m
with_copy (Some bytes) m = after (Sync Copy) (after (Write Copy bytes.now) (after CreateCopy m))
