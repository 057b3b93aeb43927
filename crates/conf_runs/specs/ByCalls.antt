-- A world whose files are replaced by single calls of systems.
use Rattle.std.specs.Prelude.{◌≡◌, ◌⊎◌, ◌≤◌, ℕ, List, Option, Result, Ok, IsErr}
use Rattle.{conf_files.specs.{Replacing.Replaces, declared.replace.ReplaceFault.ReplaceFault}, file_calls.specs.Crash.{Image, CrashLeaves}}
use Rattle.{file_calls.specs.{Machine.Machine, Models.FileModel}, conf_tools.specs.Worlds.WorldModel, conf_runs.specs.Files.FilesModel}
use Rattle.conf_runs.specs.Files.{Passes, Nothing, leaves}

-- a crash leaves this under the name that a person gave
pub record IsLeftUnder (m : Machine) (bytes : Option (List ℕ)) : Type 0 where
  pub image : Image
  pub left : CrashLeaves m image
  pub given : bytes ≡ image.given

-- Systems S of single calls stand for the files at the places P of worlds W.
module _ {W P S : Type 0} (calls : FileModel S) (files : FilesModel W P) where
  -- The file at a place was replaced by the calls from `first` to `last`, and nothing else changed. What a crash left of
  -- the system, it left of each path that leads to the place.
  pub record GoesBy (place : P) (first last : S) (old new : W) : Type 0 where
    pub later : files.moment old ≤ files.moment new
    pub before : (path : List ℕ) (bytes : Option (List ℕ)) → files.leads place path
        → IsLeftUnder (calls.machine first) bytes → leaves files old path bytes
    pub between : (from : ℕ) (path : List ℕ) (bytes : Option (List ℕ)) → from ≤ files.moment old
        → files.left new from path bytes → files.left old from path bytes
        ⊎ (files.leads place path
        × ((m : Machine) × calls.held last (calls.moment first) m × IsLeftUnder m bytes))
    pub after : (path : List ℕ) (bytes : Option (List ℕ)) → files.leads place path → leaves files new path bytes
        → IsLeftUnder (calls.machine last) bytes

  -- a file was replaced by such calls, as `Replaces` says, or none was begun
  abbrev pub ReplacedBy : P → List ℕ → W → Result (Unit {0}) ReplaceFault → W → Type 0
  ReplacedBy place whole old result new =
      (IsErr result × Passes files old new (Nothing files))
      ⊎ ((first : S) × (last : S) × Replaces calls whole first result last × GoesBy place first last old new)

module _ {W D F P S : Type 0} (world : WorldModel W D F P) (calls : FileModel S) (files : FilesModel W P) where
  -- Files are replaced by such calls alone, and none changes by being opened.
  pub record ReplacesByCalls : Type 0 where
    pub counts : (now : W) (earlier later : ℕ) (path : List ℕ) (bytes : Option (List ℕ)) → earlier ≤ later
        → files.left now later path bytes → files.left now earlier path bytes
    pub opened : (path : List ℕ) (old new : W) (found : Result (F × P) ReplaceFault)
        → world.opened_to_replace path old found new → Passes files old new (Nothing files)
    pub leads : (path : List ℕ) (old new : W) (file : F) (place : P)
        → world.opened_to_replace path old (Ok (file, place)) new → files.leads place path
    pub replaced : (place : P) (whole : List ℕ) (old new : W) (result : Result (Unit {0}) ReplaceFault)
        → world.replaced place whole old result new → ReplacedBy calls files place whole old result new
