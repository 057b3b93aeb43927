-- A file of other bytes in the place of one that is there.
use Rattle.std.specs.Prelude.{◌≡◌, ◌⊎◌, ℕ, List, [], Option, Some, None, Contains, true, false, Result, OnOk, OnErr}
use Rattle.file_calls.specs.{Machine.{Names, Machine, file_at, given_bytes, stages, Leads.{Nothing, Old, New}}, Crash.{Image, CrashLeaves}}
use Rattle.{file_calls.specs.{Crash.IsLeft, Models.{FileModel, Passes}}, conf_files.specs.{Modes.{IsNarrow, TakesAfter}, Standing.HasAll}}
use Rattle.conf_files.specs.Standing.{IsNotNew}

-- the name leads to a file that is to be replaced, and no new one was made yet
pub record IsFresh (m : Machine) : Type 0 where
  pub given : m.now.given ≡ Old
  pub beside : m.now.beside ≡ Nothing
  pub none : m.new ≡ None
  pub names : (names : Names) → Contains (stages m) names → IsNotNew names.given
  pub granted : m.is_refused ≡ false

-- what a crash leaves under the name, if it comes before
pub record LeavesBefore (before : Machine) (bytes : Option (List ℕ)) : Type 0 where
  pub names : Names
  pub among : Contains (stages before) names
  pub left : IsLeft (file_at before names.given) bytes

-- Reads see the old file or the new one, whole. A crash leaves what it might have left before, or the new one, whole. And
-- nobody may use the new file who might not use the old one, but its owner.
pub record IsOldOrNew (before : Machine) (bytes : List ℕ) (m : Machine) : Type 0 where
  pub reads : (given_bytes m ≡ given_bytes before) ⊎ (given_bytes m ≡ Some bytes)
  pub leaves : (image : Image) → CrashLeaves m image → LeavesBefore before image.given ⊎ (image.given ≡ Some bytes)
  pub narrow : IsNarrow before.old.rights m.new

-- The name leads to the new file. The device has its bytes, and the name, and nothing is left beside it.
pub record IsReplaced (before : Machine) (bytes : List ℕ) (m : Machine) : Type 0 where
  pub given : m.now.given ≡ New
  pub beside : m.now.beside ≡ Nothing
  pub named : m.earlier ≡ []
  pub whole : HasAll bytes m.new
  pub rights : TakesAfter before.old.rights m

-- The file is the old one, or the new one, whole. The new one is not left beside it, unless the call failed that made it
-- or was to remove it.
pub record IsKept (before : Machine) (bytes : List ℕ) (m : Machine) : Type 0 where
  pub reads : (given_bytes m ≡ given_bytes before) ⊎ (given_bytes m ≡ Some bytes)
  pub beside : (m.now.beside ≡ Nothing) ⊎ (m.is_left ≡ true)

-- how a file is replaced by one of these bytes
pub record Replaces {S E : Type 0} (model : FileModel S) (bytes : List ℕ) (old : S) (result : Result (Unit {0}) E) (new : S)
    : Type 0 where
  pub done : model.honest → OnOk result (IsReplaced (model.machine old) bytes (model.machine new))
  pub failed : model.honest → OnErr result (IsKept (model.machine old) bytes (model.machine new))
  pub moments : model.honest → Passes model old new (IsOldOrNew (model.machine old) bytes)
