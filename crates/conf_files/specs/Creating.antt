-- A new file, where nothing is yet.
use Rattle.std.specs.Prelude.{◌≡◌, ◌⊎◌, ℕ, List, [], take, Option, Some, None, Contains, true, Result, OnOk, OnErr}
use Rattle.{conf_disk.specs.Image.IsWorn, file_calls.specs.Machine.{File, Names, Machine, file_bytes, given_bytes, stages, Leads.Nothing}}
use Rattle.file_calls.specs.{Machine.Leads.New, Crash.{Image, CrashLeaves}, Models.{FileModel, Passes}}
use Rattle.conf_files.specs.{Modes.NewIsPrivate, Standing.{HasAll, IsNotNew}, Replacing.LeavesBefore}

-- no new file was made yet
pub record IsUnmade (m : Machine) : Type 0 where
  pub none : m.new ≡ None
  pub names : (names : Names) → Contains (stages m) names → IsNotNew names.given

-- a first part of the bytes, so many
abbrev pub IsPart : List ℕ → List ℕ → Type 0
IsPart bytes part = (k : ℕ) × (part ≡ take k bytes)

-- the new file has a first part of the bytes
abbrev pub HasPart : List ℕ → Option File → Type 0
HasPart bytes None = ⊥
HasPart bytes (Some file) = IsPart bytes (file_bytes file)

-- what is there: a part of the bytes
abbrev pub ReadsPart : List ℕ → Option (List ℕ) → Type 0
ReadsPart bytes None = ⊥
ReadsPart bytes (Some part) = IsPart bytes part

-- what a crash leaves: as many of the bytes as there are or fewer, each as it is or zero
abbrev pub LeavesPart : List ℕ → Option (List ℕ) → Type 0
LeavesPart bytes None = ⊥
LeavesPart bytes (Some left) = IsWorn bytes left

-- Reads see what was there before, or, where nothing was, a first part of the bytes. A crash leaves what it might have
-- left before, or a part of the bytes, with zeros. Nobody but its owner may use the new file.
pub record IsNoneOrPart (before : Machine) (bytes : List ℕ) (m : Machine) : Type 0 where
  pub reads : (given_bytes m ≡ given_bytes before) ⊎ ((before.now.given ≡ Nothing) × ReadsPart bytes (given_bytes m))
  pub leaves : (image : Image) → CrashLeaves m image → LeavesBefore before image.given ⊎ LeavesPart bytes image.given
  pub is_private : NewIsPrivate m.new

-- Nothing was there. The name leads to the new file, and the device has its bytes, and the name.
pub record IsCreated (before : Machine) (bytes : List ℕ) (m : Machine) : Type 0 where
  pub none : before.now.given ≡ Nothing
  pub given : m.now.given ≡ New
  pub named : m.earlier ≡ []
  pub whole : HasAll bytes m.new

-- What was there is there, or, where nothing was, the new file is there with all its bytes. It may be there with a part of
-- them only if the call failed that made it or was to remove it.
pub record IsUnchanged (before : Machine) (bytes : List ℕ) (m : Machine) : Type 0 where
  pub reads : (given_bytes m ≡ given_bytes before) ⊎ ((given_bytes m ≡ Some bytes) ⊎ (m.is_left ≡ true))

-- how a file of these bytes is made
pub record Creates {S E : Type 0} (model : FileModel S) (bytes : List ℕ) (old : S) (result : Result (Unit {0}) E) (new : S)
    : Type 0 where
  pub done : model.honest → OnOk result (IsCreated (model.machine old) bytes (model.machine new))
  pub failed : model.honest → OnErr result (IsUnchanged (model.machine old) bytes (model.machine new))
  pub moments : model.honest → Passes model old new (IsNoneOrPart (model.machine old) bytes)
