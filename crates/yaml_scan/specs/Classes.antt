-- The classes of characters that a table of bytes decides: those from U+0080 on are all in a class or all outside it.
use Rattle.std.specs.Prelude.{◌≡◌, ℕ, ◌<◌, ◌≤◌, Bool, true, not, ◌&&◌, ◌||◌, ◌==◌, nat_lt, List, length, slice_index, codes}
use Rattle.yaml_scan.specs.Prelude.{is_in, nb, nb_json, white, FlowContext, outer, inner, safe, single_quote}
use Rattle.yaml_scan.specs.declared.classes.Class.{Class, TheVariants.{Words, WordsInside, SingleQuoted, DoubleQuoted, Line}}

-- a safe character that is one byte, and neither `:` nor `#`: plain wherever it comes after the first character of a
-- scalar
abbrev pub simple : FlowContext → ℕ → Bool
simple c x = nat_lt x 128 && (safe c x && not (is_in x (codes ":#")))

-- such a character, or whitespace
abbrev pub word : FlowContext → ℕ → Bool
word c x = simple c x || white x

-- characters that mean themselves in single quotes
abbrev pub single_quoted : ℕ → Bool
single_quoted x = nb_json x && not (x == single_quote)

-- characters that mean themselves in double quotes
abbrev pub double_quoted : ℕ → Bool
double_quoted x = nb_json x && not (is_in x (codes "\"\\"))

-- a character that a line may hold and that is one byte
abbrev pub line_ascii : ℕ → Bool
line_ascii x = nat_lt x 128 && nb x

-- the test of a class
abbrev pub test_of : Class → ℕ → Bool
test_of Words = word outer
test_of WordsInside = word inner
test_of SingleQuoted = single_quoted
test_of DoubleQuoted = double_quoted
test_of Line = line_ascii

-- the bit of the table for these characters
abbrev pub bit_of : Class → ℕ
bit_of Words = 1
bit_of WordsInside = 2
bit_of SingleQuoted = 4
bit_of DoubleQuoted = 8
bit_of Line = 16

-- all bytes between two places pass the test
pub record ArePassed (test : ℕ → Bool) (bytes : List ℕ) (from to : ℕ) : Type 0 where
  pub above : from ≤ to
  pub within : to ≤ length bytes
  pub passes : (k : ℕ) → from ≤ k → k < to → test (slice_index bytes k) ≡ true
