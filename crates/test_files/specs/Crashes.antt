-- What a crash leaves, as a test chooses it.
use Rattle.std.specs.Prelude.{◌≡◌, ℕ, List, [], ◌∷◌, ◌++◌, length, get_or, Option, Some, None, option_map, Bool, if◌then◌else◌}
use Rattle.file_calls.specs.{Machine.{File, Leads, Machine, file_at, stages}, Crash.{Image, CrashLeaves}}

-- of bytes, as many as there are tests, or all, each as it is or zero
abbrev pub worn : List ℕ → List Bool → List ℕ
worn bytes [] = []
worn [] (kept ∷ rest) = []
worn (byte ∷ bytes) (kept ∷ rest) = (if kept then byte else 0) ∷ worn bytes rest

abbrev pub torn_bytes : List Bool → File → List ℕ
torn_bytes kept file = file.version.device ++ worn file.version.pending kept

-- what the name leads to at a stage, counted from 0, oldest first; behind the last one, now
abbrev pub given_at : Machine → ℕ → Leads
given_at m stage = (get_or (stages m) stage m.now).given

-- how many bytes are pending in a file, if there is one
abbrev pub pending_of : Option File → ℕ
pending_of None = 0
pending_of (Some file) = length file.version.pending

-- what a crash leaves under the name
abbrev pub left_of : Machine → ℕ → List Bool → Option (List ℕ)
left_of m stage kept = option_map (torn_bytes kept) (file_at m (given_at m stage))

-- a crash leaves these bytes under the name
pub record MayBeLeft (m : Machine) (bytes : Option (List ℕ)) : Type 0 where
  pub image : Image
  pub left : CrashLeaves m image
  pub given : image.given ≡ bytes
