-- Line breaks (YAML 1.2.2, 5.4). LF and CR are single bytes in UTF-8, so the definitions on lists hold for bytes and
-- for characters.
use Rattle.std.specs.{Prelude.{◌≡◌, ◌≢◌, ℕ, ◌+◌, ◌≤◌, Bool, not, List, ◌∷◌, Some, drop, slice_get, slice_range}, List.AllPass}
use Rattle.std.specs.Str.{IsCharBoundary}
use Rattle.yaml_chars.specs.{Signs.{line_feed, carriage_return}, Classes.line_break, Places.{rest, between}}

-- [28] b-break: the list starts with a break of `len` elements, and the other elements come after it
pub data StartsWithBreak (text : List ℕ) (len : ℕ) (after : List ℕ) : Type 0 where
  cr_lf : text ≡ carriage_return ∷ line_feed ∷ after → len ≡ 2 → StartsWithBreak text len after
  lf : text ≡ line_feed ∷ after → len ≡ 1 → StartsWithBreak text len after
  cr : text ≡ carriage_return ∷ after → slice_get after 0 ≢ Some line_feed → len ≡ 1 → StartsWithBreak text len after

-- neither LF nor CR ([26] b-char, 5.4)
abbrev pub no_break : ℕ → Bool
no_break c = not (line_break c)

-- the list contains no break
abbrev pub NoBreak : List ℕ → Type 0
NoBreak text = AllPass no_break text

-- the first break at or after a place, over the bytes of a text
pub record IsNextBreak (text : List ℕ) (at start len : ℕ) : Type 0 where
  pub above : at ≤ start
  pub none_before : NoBreak (slice_range text at start)
  pub break : StartsWithBreak (drop start text) len (drop (start + len) text)

-- the same over its characters: the line ends at `start`, and the next one starts after the break
pub record EndsLine (text : List ℕ) (at start len : ℕ) : Type 0 where
  pub end : IsCharBoundary text start
  pub next : IsCharBoundary text (start + len)
  pub line : NoBreak (between text at start)
  pub break : StartsWithBreak (rest text start) len (rest text (start + len))
