-- The next closing after a place.
use Rattle.std.specs.Prelude.{ℕ, ◌<◌, ◌≤◌, List, length, take, IsTrue}
use Rattle.yaml_docs.specs.Prelude.{ends_line, ClosesAt}

-- the place is just after a closing line and after `at`, and is the first such place
pub record IsNextClosing (bytes : List ℕ) (at place : ℕ) : Type 0 where
  pub after : at < place
  pub closes : ClosesAt bytes place
  pub first : (other : ℕ) → at < other → ClosesAt bytes other → place ≤ other

-- a line starts at the place
pub record StartsLine (bytes : List ℕ) (at : ℕ) : Type 0 where
  pub within : at ≤ length bytes
  pub line : IsTrue (ends_line (take at bytes))

-- there is no such place
abbrev pub NoClosingAfter : List ℕ → ℕ → Type 0
NoClosingAfter bytes at = (place : ℕ) → at < place → ClosesAt bytes place → ⊥
