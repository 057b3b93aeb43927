-- By how much a file has grown since its base was written.
use Rattle.std.specs.Prelude.{◌≡◌, ℕ, List, ◌++◌, length, Option, Some, None}
use Rattle.conf_store.specs.{Prelude.{ClosesOnce, Folder, Contents, IsBase}, Durable.staged_text, Staged.Staged}

-- The bytes are a base, a piece that is closed once, and then others: so many.
pub record IsGrown (bytes : List ℕ) (count : ℕ) : Type 0 where
  pub base : List ℕ
  pub others : List ℕ
  pub joined : bytes ≡ base ++ others
  pub closes : ClosesOnce base
  pub state : Contents
  pub is_base : IsBase base state
  pub long : length others ≡ count

-- the file is there, and is a base and so many bytes after it
abbrev pub HasGrown : Option (List ℕ) → ℕ → Type 0
HasGrown None count = ⊥
HasGrown (Some bytes) count = IsGrown bytes count

-- The bytes start with a base of so many bytes.
pub record StartsWithBase (bytes : List ℕ) (size : ℕ) : Type 0 where
  pub base : List ℕ
  pub others : List ℕ
  pub joined : bytes ≡ base ++ others
  pub closes : ClosesOnce base
  pub state : Contents
  pub is_base : IsBase base state
  pub long : length base ≡ size

-- the same of a file that is there
abbrev pub FileStartsWithBase : Option (List ℕ) → ℕ → Type 0
FileStartsWithBase None size = ⊥
FileStartsWithBase (Some bytes) size = StartsWithBase bytes size

-- the same of a checkpoint's new file, if one runs
abbrev pub StagedStartsWithBase : Folder → Option Staged → ℕ → Type 0
StagedStartsWithBase folder None size = Unit {0}
StagedStartsWithBase folder (Some staged) size = FileStartsWithBase (staged_text folder (Some staged)) size

-- the same of a file that may be missing
abbrev pub FoundBase : Option (List ℕ) → ℕ → Type 0
FoundBase None size = size ≡ 0
FoundBase (Some bytes) size = StartsWithBase bytes size
