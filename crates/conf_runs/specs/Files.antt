-- What a world promises of the files that are replaced in it.
use Rattle.std.specs.Prelude.{◌≡◌, ◌⊎◌, ◌≤◌, ℕ, List, Option, Some, Result, Ok}
use Rattle.{conf_files.specs.declared.replace.ReplaceFault.ReplaceFault, conf_tools.specs.Worlds.WorldModel}

-- Worlds W, of which one knows what a crash leaves of their files, and the places P of files that are to be replaced.
pub record FilesModel (W P : Type 0) : Type 1 where
  -- the moment, as a number that never falls
  pub moment : W → ℕ
  -- What a crash at some moment from that one to now might have left of the file at a path, moments inside calls
  -- included; `None` where it left no file.
  pub left : W → ℕ → List ℕ → Option (List ℕ) → Type 0
  -- Whether a path leads to a place: it is the name of the file there, or a way to this name through links. Another
  -- name of the same file is another place.
  pub leads : P → List ℕ → Type 0

module _ {W P : Type 0} (files : FilesModel W P) where
  -- what a crash leaves of the file at a path, if it comes now
  abbrev pub leaves : W → List ℕ → Option (List ℕ) → Type 0
  leaves now = files.left now (files.moment now)

  -- From one world to a later one, a crash left of a file what it might have left before, or what `New` says.
  pub record Passes (old new : W) (New : List ℕ → Option (List ℕ) → Type 0) : Type 0 where
    pub later : files.moment old ≤ files.moment new
    pub nothing_else : (from : ℕ) (path : List ℕ) (bytes : Option (List ℕ)) → from ≤ files.moment old
        → files.left new from path bytes → files.left old from path bytes ⊎ New path bytes

  -- nothing new, of any file
  abbrev pub Nothing : List ℕ → Option (List ℕ) → Type 0
  Nothing path bytes = ⊥

  -- at each path that leads to a place, a file of these bytes, whole
  abbrev pub FileAt : P → List ℕ → List ℕ → Option (List ℕ) → Type 0
  FileAt place whole path bytes = files.leads place path × (bytes ≡ Some whole)

module _ {W D F P : Type 0} (world : WorldModel W D F P) (files : FilesModel W P) where
  -- A file is replaced whole or not at all, at each moment of the call, and also where the call fails. No other file
  -- changes by it, and none by being opened.
  pub record KeepsFiles : Type 0 where
    pub counts : (now : W) (earlier later : ℕ) (path : List ℕ) (bytes : Option (List ℕ)) → earlier ≤ later
        → files.left now later path bytes → files.left now earlier path bytes
    pub opened : (path : List ℕ) (old new : W) (found : Result (F × P) ReplaceFault)
        → world.opened_to_replace path old found new → Passes files old new (Nothing files)
    pub leads : (path : List ℕ) (old new : W) (file : F) (place : P)
        → world.opened_to_replace path old (Ok (file, place)) new → files.leads place path
    pub replaced : (place : P) (whole : List ℕ) (old new : W) (result : Result (Unit {0}) ReplaceFault)
        → world.replaced place whole old result new → Passes files old new (FileAt files place whole)
    pub done : (place : P) (whole : List ℕ) (old new : W) → world.replaced place whole old (Ok tt) new
        → (path : List ℕ) (bytes : Option (List ℕ)) → files.leads place path → leaves files new path bytes
        → bytes ≡ Some whole
