-- A name on the way from the old file to the new one.
use Rattle.std.specs.Prelude.{◌≡◌, ◌⊎◌, ℕ, List, [], Option, Some, None, Contains, false, option_map}
use Rattle.file_calls.specs.{declared.calls.Rights.Rights, Machine.{File, Leads, Names, Machine, stages, Leads.{Old, New}}}
use Rattle.{file_calls.specs.Models.{FileModel, Passes}, conf_files.specs.Modes.IsNarrow}

-- the device has these bytes of the file, and there are no others
abbrev pub HasAll : List ℕ → Option File → Type 0
HasAll bytes None = ⊥
HasAll bytes (Some file) = file.version ≡ record { device = bytes; pending = []; failed = false }

-- a name that does not lead to the new file
abbrev pub IsNotNew : Leads → Type 0
IsNotNew New = ⊥
IsNotNew leads = Unit {0}

-- a crash might have left a name that leads there
pub record MightLead (before : Machine) (leads : Leads) : Type 0 where
  pub names : Names
  pub among : Contains (stages before) names
  pub is : names.given ≡ leads

-- the new file stands beside the old one, which has its name as before
pub record Stands (before m : Machine) : Type 0 where
  pub old : m.old ≡ before.old
  pub names : (names : Names) → Contains (stages m) names → MightLead before names.given × IsNotNew names.given
  pub given : m.now.given ≡ Old
  pub narrow : IsNarrow before.old.rights m.new

-- a name leads where it led before, or to the new file, of which the device has these bytes
abbrev pub IsHere : Machine → List ℕ → Machine → Leads → Type 0
IsHere before bytes m New = HasAll bytes m.new
IsHere before bytes m leads = MightLead before leads

-- the name leads to the old file, or to the new one
pub record Holds (before : Machine) (bytes : List ℕ) (m : Machine) : Type 0 where
  pub old : m.old ≡ before.old
  pub names : (names : Names) → Contains (stages m) names → IsHere before bytes m names.given
  pub given : (m.now.given ≡ Old) ⊎ (m.now.given ≡ New)
  pub narrow : IsNarrow before.old.rights m.new

-- nothing but the new file changed, and what is known of refusals
pub record OnlyNew (old new : Machine) : Type 0 where
  pub same_old : new.old ≡ old.old
  pub earlier : new.earlier ≡ old.earlier
  pub now : new.now ≡ old.now
  pub is_left : new.is_left ≡ old.is_left

-- the bytes of the new file are the same
abbrev pub SameVersion : Machine → Machine → Type 0
SameVersion old new = option_map (λ file. file.version) new.new ≡ option_map (λ file. file.version) old.new

-- at each moment, and now, the new file stands beside an old one that these might use
abbrev pub KeepsStanding : {S : Type 0} → FileModel S → Rights → S → S → Type 0
KeepsStanding model replaced old new = (before : Machine) → before.old.rights ≡ replaced → Stands before (model.machine old)
    → Stands before (model.machine new) × Passes model old new (Stands before)

-- at each moment, and now, the name leads to the old file, or to the new one with these bytes
abbrev pub KeepsHolding : {S : Type 0} → FileModel S → Rights → List ℕ → S → S → Type 0
KeepsHolding model replaced bytes old new = (before : Machine) → before.old.rights ≡ replaced → Stands before (model.machine old)
    → Holds before bytes (model.machine new) × Passes model old new (Holds before bytes)
