-- Folders by their paths.
use Rattle.std.specs.Prelude.{◌≡◌, ◌≢◌, ◌⊎◌, ℕ, ◌<◌, List, [], ◌∷◌, ◌++◌, length, get_or, Option, Some, None}
use Rattle.conf_disk.specs.{Folder.{Folder, empty_folder}, Image.{Image, IsImage}}

-- a folder at a path; none while its disk is handed out
pub record Entry : Type 0 where
  pub path : List ℕ
  pub folder : Option Folder

abbrev pub no_entry : Entry
no_entry = record { path = []; folder = None }

abbrev pub entry_at : List Entry → ℕ → Entry
entry_at entries place = get_or entries place no_entry

-- the first with a path is at this place
pub record IsFirst (entries : List Entry) (path : List ℕ) (place : ℕ) : Type 0 where
  pub within : place < length entries
  pub here : (entry_at entries place).path ≡ path
  pub before : (other : ℕ) → other < place → (entry_at entries other).path ≢ path

-- none has it
abbrev pub IsNowhere : List Entry → List ℕ → Type 0
IsNowhere entries path = (place : ℕ) → place < length entries → (entry_at entries place).path ≢ path

-- the folder at a path; where there is none, an empty one
abbrev pub IsFolderAt : List Entry → List ℕ → Folder → Type 0
IsFolderAt entries path folder =
    ((place : ℕ) × IsFirst entries path place × ((entry_at entries place).folder ≡ Some folder))
    ⊎ (IsNowhere entries path × (folder ≡ empty_folder))

-- what a crash leaves of the folder at a path
pub record Leaves (entries : List Entry) (path : List ℕ) (image : Image) : Type 0 where
  pub folder : Folder
  pub at : IsFolderAt entries path folder
  pub is : IsImage folder image

-- the folder at one place is another, and that is all
pub record Changes (old new : List Entry) (place : ℕ) (folder : Option Folder) : Type 0 where
  pub count : length new ≡ length old
  pub paths : (other : ℕ) → (entry_at new other).path ≡ (entry_at old other).path
  pub here : (entry_at new place).folder ≡ folder
  pub others : (other : ℕ) → other ≢ place → (entry_at new other).folder ≡ (entry_at old other).folder

-- a crash leaves no file of the folder
abbrev pub IsBlank : Folder → Type 0
IsBlank folder = (image : Image) → IsImage folder image → (image.store ≡ None) × (image.next ≡ None)

-- a new one is at the end
pub record Adds (old new : List Entry) (path : List ℕ) : Type 0 where
  pub free : IsNowhere old path
  pub folder : Folder
  pub blank : IsBlank folder
  pub is : new ≡ old ++ record { path = path; folder = Some folder } ∷ []
