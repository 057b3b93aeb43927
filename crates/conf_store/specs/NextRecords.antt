-- Why a piece is not the next record after a state.
use Rattle.std.specs.Prelude.{◌≡◌, ◌≢◌, ℕ, ◌+◌, List, Ok, Err}
use Rattle.conf_store.specs.{Prelude.{Command, Contents, step, Enough, IsRecord, IsNoRecord}, declared.records.NoRecord.NoRecord}
use Rattle.conf_store.specs.declared.records.{NoRecord.TheVariants.{NotARecord, WrongNumber, Refused}, RecordFault.RecordFault}
use Rattle.conf_store.specs.declared.records.RecordFault.TheVariants.{Bad, OutOfMemory}

-- the reason holds of the piece and the state
abbrev pub IsWhy : List ℕ → Contents → NoRecord → Type 0
IsWhy piece s NotARecord = IsNoRecord piece
IsWhy piece s (WrongNumber found) = (command : Command) × IsRecord piece command found × (found ≢ s.count + 1)
IsWhy piece s (Refused fault) =
    (command : Command) × IsRecord piece command (s.count + 1) × (step s command Enough ≡ Err fault)

-- the same of a fault; OutOfMemory says nothing of the piece
abbrev pub RefusesRecord : List ℕ → Contents → RecordFault → Type 0
RefusesRecord piece s (Bad why) = IsWhy piece s why
RefusesRecord piece s OutOfMemory = Unit {0}

-- the piece is the next record after `old`, its command leads to `new`, and this is told of the command
pub record PerformsRecord (tells : ℕ → Command → Type 0) (piece : List ℕ) (old new : Contents) : Type 0 where
  pub command : Command
  pub is_record : IsRecord piece command (old.count + 1)
  pub done : step old command Enough ≡ Ok new
  pub told : tells (old.count + 1) command
