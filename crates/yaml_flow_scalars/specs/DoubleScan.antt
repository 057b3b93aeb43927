-- What the scanner of double-quoted scalars finds at places of a text, in terms of the recognizer.
use Rattle.std.specs.Prelude.{◌≡◌, ℕ, ◌+◌, ◌<◌, Bool, true, false, ◌&&◌, ◌==◌, List, take, drop, length, Some, None, if◌then◌else◌}
use Rattle.std.specs.Char.{IsScalar}
use Rattle.yaml_flow_scalars.specs.Prelude.{IsCharBoundary, chars, rest, list_all, FlowContext, QuotedChar, raw, escape, hex_digit}
use Rattle.yaml_flow_scalars.specs.Prelude.{digit_of, hex_value, quoted_char_fits, quoted_char_value, escaped_char, line_feeds}
use Rattle.yaml_flow_scalars.specs.Prelude.{folded_break, Read, after_blank, read_join, read_held, read_quoted, read_item, double_closes}
use Rattle.yaml_flow_scalars.specs.Prelude.{quoted_value, with_prefix}

-- ---- values

-- the value of what is between double quotes, from the opening one on, and what comes after the closing one
unfoldable pub double_value : ℕ → FlowContext → List ℕ → Read (List ℕ)
double_value n c text = quoted_value quoted_char_value (read_quoted read_item double_closes true n c text)

-- What was added to the value between two places is what the text between them means.
pub record Adds (n : ℕ) (c : FlowContext) (text old : List ℕ) (from : ℕ) (new : List ℕ) (to : ℕ) : Type 0 where
  pub boundary : IsCharBoundary text to
  pub means : with_prefix (chars new) (double_value n c (rest text to))
      ≡ with_prefix (chars old) (double_value n c (rest text from))

-- the value of what is from a place on up to a closing quote, which comes before the end and after the other place
pub record ClosesAt (n : ℕ) (c : FlowContext) (text : List ℕ) (start beyond : ℕ) (value : List ℕ)
    (end : ℕ) : Type 0 where
  pub above : beyond + 1 < end
  pub boundary : IsCharBoundary text end
  pub means : double_value n c (rest text start) ≡ Some (chars value, rest text end)

-- ---- runs

-- a character that means itself
unfoldable pub raw_char : ℕ → Bool
raw_char c = quoted_char_fits (raw c)

-- ---- escapes

-- the escape whose backslash is at the place ends at the other, and means the character
pub record EscapeAt (text : List ℕ) (at meant end : ℕ) : Type 0 where
  pub above : at < end
  pub boundary : IsCharBoundary text end
  pub item : QuotedChar
  pub found : read_item (rest text at) ≡ Some (item, rest text end)
  pub means : quoted_char_value item ≡ meant
  pub scalar : IsScalar meant

-- no escape is at the place
abbrev pub NoEscapeAt : List ℕ → ℕ → Type 0
NoEscapeAt text at = read_item (rest text at) ≡ None

-- the sign after a backslash takes no digits, and means the character
pub record IsEscape (sign meant : ℕ) : Type 0 where
  pub allowed : quoted_char_fits (escape sign) ≡ true
  pub means : escaped_char sign ≡ meant

-- a hexadecimal digit and its value
pub record IsDigit (digit number : ℕ) : Type 0 where
  pub allowed : hex_digit digit ≡ true
  pub means : digit_of digit ≡ number

-- this number of hexadecimal digits is at the place
abbrev pub digits_at : List ℕ → ℕ → ℕ → Bool
digits_at text at count = let digits =
    take count (rest text at) in (length digits == count) && list_all hex_digit digits

-- and this is the number that they give
pub record IsNumberAt (text : List ℕ) (at count number : ℕ) : Type 0 where
  pub digits : digits_at text at count ≡ true
  pub boundary : IsCharBoundary text (at + count)
  pub after : drop count (rest text at) ≡ rest text (at + count)
  pub value : hex_value 0 (take count (rest text at)) ≡ number

-- ---- joins

-- A join starts here, and nothing else does: perhaps a backslash, or whitespace, and what may be a break after it.
pub record BeginsJoin (n : ℕ) (prefix : List ℕ) (escaped : Bool) (blank after : List ℕ) : Type 0 where
  pub held : read_held read_item prefix ≡ None
  pub open_still : double_closes prefix ≡ false
  pub join : read_join true n prefix ≡ after_blank escaped n blank after

-- The join whose break is at the place goes on to the other, and has this number of empty lines.
pub record JoinsAt (n : ℕ) (c : FlowContext) (text : List ℕ) (at empties next : ℕ) : Type 0 where
  pub above : at < next
  pub boundary : IsCharBoundary text next
  pub means : (escaped : Bool) (prefix blank : List ℕ) → BeginsJoin n prefix escaped blank (rest text at)
      → double_value n c prefix ≡ with_prefix (if escaped then line_feeds empties else folded_break empties)
      (double_value n c (rest text next))

-- a scalar with a join there has no value
abbrev pub NoJoinAt : ℕ → FlowContext → List ℕ → ℕ → Type 0
NoJoinAt n c text at = (escaped : Bool) (prefix blank : List ℕ) → BeginsJoin n prefix escaped blank (rest text at)
    → double_value n c prefix ≡ None
