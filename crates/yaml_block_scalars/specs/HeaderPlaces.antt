-- What is at a place of a header, in terms of the recognizers: places count the text's bytes.
use Rattle.std.specs.Prelude.{◌≡◌, ℕ, ◌≤◌, Bool, true, List, Option, Some}
use Rattle.yaml_block_scalars.specs.Prelude.{IsCharBoundary, rest, LineEnd, Chomping, digit_fits, read_digit, read_mark}
use Rattle.yaml_block_scalars.specs.Prelude.{after_digit, header_at, read_header_end, IsLineStart}

-- a header's digit, which may be missing
pub record IsDigit (text : List ℕ) (at : ℕ) (digit : Option ℕ) (end : ℕ) : Type 0 where
  pub above : at ≤ end
  pub boundary : IsCharBoundary text end
  pub reads : read_digit (rest text at) ≡ (digit, rest text end)
  pub fits : digit_fits digit ≡ true

-- a header's chomping mark, which may be missing
pub record IsMark (text : List ℕ) (at : ℕ) (chomping : Chomping) (end : ℕ) : Type 0 where
  pub above : at ≤ end
  pub boundary : IsCharBoundary text end
  pub reads : read_mark (rest text at) ≡ (chomping, rest text end)

-- both, in either order
pub record AreSigns (text : List ℕ) (at : ℕ) (digit : Option ℕ) (chomping : Chomping) (end : ℕ) : Type 0 where
  pub above : at ≤ end
  pub boundary : IsCharBoundary text end
  pub fits : digit_fits digit ≡ true
  pub last : Bool
  pub reads : (folded : Bool) → after_digit folded (read_digit (rest text at))
      ≡ header_at folded digit chomping last (rest text end)

-- the end of a header's line
pub record IsHeaderEnd (text : List ℕ) (at end : ℕ) : Type 0 where
  pub above : at ≤ end
  pub boundary : IsCharBoundary text end
  pub line_end : LineEnd
  pub reads : read_header_end (rest text at) ≡ Some (line_end, rest text end)
  pub starts : IsLineStart text end
