-- Places in a text, which count bytes from 0, and the characters there.
use Rattle.std.specs.{Prelude.{◌≡◌, ℕ, ◌<◌, ◌≤◌, Bool, false, List, length, drop, slice_range, slice_index}, List.AllPass, Str.chars}
use Rattle.std.specs.Str.{IsCharBoundary}

-- the characters of a text from a place on
abbrev pub rest : List ℕ → ℕ → List ℕ
rest text at = chars (drop at text)

-- the characters of a text from a place up to a later one
abbrev pub between : List ℕ → ℕ → ℕ → List ℕ
between text from to = chars (slice_range text from to)

-- A run of characters that pass a test goes from one place to another, where the text ends or a character fails it.
pub record IsRun (test : ℕ → Bool) (text : List ℕ) (from to : ℕ) : Type 0 where
  pub above : from ≤ to
  pub boundary : IsCharBoundary text to
  pub passes : AllPass test (between text from to)
  pub stop : to < length text → test (slice_index text to) ≡ false
