-- What a crash of the machine leaves of the two names.
use Rattle.std.specs.Prelude.{◌≡◌, ℕ, List, [], Option, None, Some, Contains, option_map}
use Rattle.{conf_system.specs.Crash.IsTorn, file_calls.specs.Machine.{File, Names, Machine, file_at, file_bytes, stages}}

-- the bytes under the two names, where there is a file
pub record Image : Type 0 where
  pub given : Option (List ℕ)
  pub beside : Option (List ℕ)

-- a file, torn; or there is none
abbrev pub IsLeft : Option File → Option (List ℕ) → Type 0
IsLeft None None = Unit {0}
IsLeft None (Some bytes) = ⊥
IsLeft (Some file) None = ⊥
IsLeft (Some file) (Some bytes) = IsTorn file.version bytes

-- a crash leaves the names of one of the stages, with what is left of their files
pub record CrashLeaves (m : Machine) (image : Image) : Type 0 where
  pub names : Names
  pub among : Contains (stages m) names
  pub given : IsLeft (file_at m names.given) image.given
  pub beside : IsLeft (file_at m names.beside) image.beside

-- what reads see now
abbrev pub image_now : Machine → Image
image_now m = record {
  given = option_map file_bytes (file_at m m.now.given);
  beside = option_map file_bytes (file_at m m.now.beside);
}

-- the device has all bytes of the file that the name leads to, and the name
pub record IsOnDevice (m : Machine) (file : File) : Type 0 where
  pub there : file_at m m.now.given ≡ Some file
  pub named : m.earlier ≡ []
  pub whole : file.version.pending ≡ []
