-- The value of a pair where it is the rest of its line (YAML 1.2.2, 8.2.2).
use Rattle.std.specs.Prelude.{◌≡◌, ℕ, ◌+◌, ◌-◌, ◌<◌, nat_le, true, false, List, length}
use Rattle.yaml_block.specs.Prelude.{IsCharBoundary, rest, between, colon, plain_style, key_limit, FlowContext, outer, block_key}
use Rattle.yaml_block.specs.Prelude.{all_comments, closes_line, sign, line_starts, AreTaken, unbroken_between, IsLineStart, IsSolidLine}
use Rattle.yaml_block.specs.{Prelude.IsFirstLine, declared.{line_value.LineValue.LineValue, nested_key.NestedKey.NestedKey}}
use Rattle.{yaml_chars.specs.Classes.white, yaml_flow_scalars.specs.Standing.ScalarAt}

-- A plain scalar on one line is between the two places, and no further line of it follows.
pub record IsPlainLine (n : ℕ) (c : FlowContext) (text : List ℕ) (start end : ℕ) : Type 0 where
  pub scalar : ScalarAt plain_style n c text start (between text start end) end
  pub unbroken : unbroken_between text start end ≡ true
  pub inside_line : line_starts text end ≡ false

-- A plain scalar on one line is the rest of that line: nothing but whitespace and a comment follows it there. No further
-- line of it follows where it needs n spaces.
pub record IsRestOfLine (text : List ℕ) (n : ℕ) (value : LineValue) : Type 0 where
  pub boundary : IsCharBoundary text value.start
  pub plain : IsPlainLine n outer text value.start value.end
  pub line : IsSolidLine false text value.end value.after
  pub starts : IsLineStart text value.after.start
  pub closes : closes_line (all_comments false (rest text value.end)) ≡ true

-- the value of a pair of a mapping at k is the rest of its line
abbrev pub IsLineValue : List ℕ → ℕ → LineValue → Type 0
IsLineValue text k = IsRestOfLine text (k + 1)

-- Whitespace is between the two places, and the line goes on after it.
pub record IsLeadIn (text : List ℕ) (at start : ℕ) : Type 0 where
  pub above : at < start
  pub white : AreTaken white text at start
  pub goes_on : closes_line (all_comments false (rest text at)) ≡ false

-- A mapping may begin with the plain scalar between the two places: its `:` is right after it, and it is short enough.
pub record IsFirstKey (text : List ℕ) (at end : ℕ) : Type 0 where
  pub line : IsFirstLine outer text at end
  pub short : nat_le (length (between text at end)) key_limit ≡ true
  pub colon : sign colon (rest text end) ≡ true

-- The mapping of this key is the value of the key of a mapping at k whose `:` is at the place: it is on a later line,
-- with more spaces, and its key is a plain scalar on one line, short enough, with its `:` right after it.
pub record IsNestedKey (text : List ℕ) (k at : ℕ) (key : NestedKey) : Type 0 where
  pub start : ℕ
  pub solid : IsSolidLine false text (at + 1) (record { start = start; first = key.at })
  pub starts : IsLineStart text start
  pub closes : closes_line (all_comments false (rest text (at + 1))) ≡ true
  pub indent : key.at - start ≡ key.indent
  pub deeper : k < key.indent
  pub line : IsFirstLine block_key text key.at key.end
  pub short : nat_le (length (between text key.at key.end)) key_limit ≡ true
  pub colon : sign colon (rest text key.end) ≡ true
