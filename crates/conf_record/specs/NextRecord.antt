-- Why bytes are not the record after a count.
use Rattle.std.specs.Prelude.{◌≢◌, ℕ, ◌+◌, List}
use Rattle.conf_record.specs.{Prelude.Command, Documents.{IsRecord, IsNoRecord}, declared.next_record.NoNext.NoNext}
use Rattle.conf_record.specs.declared.next_record.NoNext.TheVariants.{NotARecord, OtherNumber, OutOfMemory}

-- the reason holds of the bytes; OutOfMemory says nothing of them
abbrev pub IsNotNext : List ℕ → ℕ → NoNext → Type 0
IsNotNext bytes count NotARecord = IsNoRecord bytes
IsNotNext bytes count (OtherNumber found) = (command : Command) × IsRecord bytes command found × (found ≢ count + 1)
IsNotNext bytes count OutOfMemory = Unit {0}
