-- Blank lines, and texts without whitespace at their ends. Places are bytes from 0.
use Rattle.std.specs.Prelude.{◌≡◌, ℕ, ◌+◌, ◌<◌, ◌≤◌, true, false, List, [], ◌∷◌, length, slice_index, if◌then◌else◌}
use Rattle.yaml_chars.specs.Classes.{white, line_break}

-- each byte from one place up to another is a space or a TAB
abbrev pub AreWhite : List ℕ → ℕ → ℕ → Type 0
AreWhite bytes from to = (at : ℕ) → from ≤ at → at < to → white (slice_index bytes at) ≡ true

-- they are, and the byte before them is neither
pub record IsWhiteRun (bytes : List ℕ) (from to : ℕ) : Type 0 where
  pub ordered : from ≤ to
  pub run : AreWhite bytes from to
  pub first : (before : ℕ) → before + 1 ≡ from → white (slice_index bytes before) ≡ false

-- a line begins here: the byte before is a break, if there is one
abbrev pub IsLineStart : List ℕ → ℕ → Type 0
IsLineStart bytes at = (before : ℕ) → before + 1 ≡ at → line_break (slice_index bytes before) ≡ true

-- a line ends here: a break begins, which is no LF behind a CR
pub record IsLineEnd (bytes : List ℕ) (at : ℕ) : Type 0 where
  pub within : at < length bytes
  pub break : line_break (slice_index bytes at) ≡ true
  pub whole : (before : ℕ) → before + 1 ≡ at → slice_index bytes at ≡ 10 → slice_index bytes before ≡ 13 → ⊥

-- a line with only spaces and TABs
pub record IsBlankLine (bytes : List ℕ) (from to : ℕ) : Type 0 where
  pub begins : IsLineStart bytes from
  pub ordered : from ≤ to
  pub blank : AreWhite bytes from to
  pub ends : IsLineEnd bytes to

-- some line is blank
pub record HasBlankLine (bytes : List ℕ) : Type 0 where
  pub from : ℕ
  pub to : ℕ
  pub is : IsBlankLine bytes from to

-- ---- ends of texts

-- a character before others, left out if it is white and no other comes after it
abbrev pub before_trimmed : ℕ → List ℕ → List ℕ
before_trimmed c [] = if white c then [] else c ∷ []
before_trimmed c (d ∷ ds) = c ∷ d ∷ ds

-- characters without the white ones at the end
abbrev pub trimmed : List ℕ → List ℕ
trimmed [] = []
trimmed (c ∷ cs) = before_trimmed c (trimmed cs)
