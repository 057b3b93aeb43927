-- Closing lines: `...` and LF, exactly, at the start of the bytes or after an LF.
-- A line of `...` that ends otherwise, or holds a comment, ends a YAML document and closes nothing.
use Rattle.std.specs.{Prelude.{◌≡◌, ℕ, ◌+◌, Bool, true, List, [], ◌∷◌, ◌++◌, length, codes, ◌==◌, IsTrue}, List.{All, concat}}
use Rattle.yaml_chars.specs.Signs.{line_feed}

-- there are no bytes, or the last one is an LF, so that a line starts after them
abbrev pub ends_line : List ℕ → Bool
ends_line [] = true
ends_line (b ∷ []) = b == line_feed
ends_line (b ∷ bs) = ends_line bs

-- the place is just after a closing line
pub record ClosesAt (bytes : List ℕ) (place : ℕ) : Type 0 where
  pub before : List ℕ
  pub after : List ℕ
  pub is : bytes ≡ before ++ (codes "...\n" ++ after)
  pub line : IsTrue (ends_line before)
  pub ends : place ≡ length before + 4

-- the bytes close at their end and nowhere else
pub record ClosesOnce (bytes : List ℕ) : Type 0 where
  pub closes : ClosesAt bytes (length bytes)
  pub once : (place : ℕ) → ClosesAt bytes place → place ≡ length bytes

-- the bytes are pieces, each closed once, and a rest that isn't closed
pub record Pieces (bytes : List ℕ) (pieces : List (List ℕ)) (rest : List ℕ) : Type 0 where
  pub joined : bytes ≡ concat pieces ++ rest
  pub closed : All ClosesOnce pieces
  pub unclosed : (place : ℕ) → ClosesAt rest place → ⊥
