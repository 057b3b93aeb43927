-- Plain scalars at places of a text: the first character, a line's run of characters, and further lines.
-- Here black says whether the character before a place is neither whitespace nor a break.
use Rattle.std.specs.Prelude.{◌≡◌, ℕ, ◌<◌, ◌≤◌, Bool, true, false, ◌&&◌, ◌||◌, List, [], ◌∷◌, ◌++◌, flat_map, slice_index}
use Rattle.yaml_flow_scalars.specs.Prelude.{IsCharBoundary, chars, list_all, no_break, line_break, ns, in_range, rest, between, plain_style}
use Rattle.yaml_flow_scalars.specs.Prelude.{no_marker, FlowContext, Line, plain_first, plain_next, line_value, char_value, folded_break}
use Rattle.yaml_flow_scalars.specs.{Prelude.line_starts, declared.plain_scalar.Before.{Before, TheVariants.{Content, Blank}}}
use Rattle.{yaml_flow_scalars.specs.Standing.ScalarAt, yaml_recognizers.specs.PlainScalars.{read_run, plain_lines_at}}

-- ---- characters

-- what comes before a place is a character that is not whitespace
abbrev pub is_content : Before → Bool
is_content Content = true
is_content Blank = false

-- each plain scalar may begin with these
abbrev pub letter_or_digit : ℕ → Bool
letter_or_digit x = in_range 48 57 x || in_range 65 90 x || in_range 97 122 x

-- where bol says whether a line starts there, the text begins with the first character of a plain scalar
abbrev pub begins_plain : FlowContext → Bool → List ℕ → Bool
begins_plain c bol [] = false
begins_plain c bol (x ∷ xs) = no_marker bol (x ∷ xs) && plain_first c x xs

-- the text after a character begins with a plain one
abbrev pub goes_on_plain : FlowContext → ℕ → List ℕ → Bool
goes_on_plain c before [] = false
goes_on_plain c before (x ∷ xs) = plain_next c before x xs

-- a plain scalar begins with the character between the two places
pub record BeginsPlain (c : FlowContext) (text : List ℕ) (at end : ℕ) : Type 0 where
  pub above : at < end
  pub boundary : IsCharBoundary text end
  pub character : ℕ
  pub splits : rest text at ≡ character ∷ rest text end
  pub begins : no_marker (line_starts text at) (character ∷ rest text end)
      && plain_first c character (rest text end) ≡ true

-- no plain scalar starts at the place
abbrev pub NoPlainBegins : FlowContext → List ℕ → ℕ → Type 0
NoPlainBegins c text at = begins_plain c (line_starts text at) (rest text at) ≡ false

-- ---- runs of a line

-- What is between the two places is read, and the run goes on after it, where the last character is not whitespace.
pub record IsPlainPiece (c : FlowContext) (black : Bool) (text : List ℕ) (at end : ℕ) : Type 0 where
  pub above : at < end
  pub boundary : IsCharBoundary text end
  pub goes_on : (before last : ℕ) → ns before ≡ black → ns last ≡ true
      → read_run c before (rest text at) ≡ between text at end ++ read_run c last (rest text end)

-- no plain character is at the place
abbrev pub NoPlainPiece : FlowContext → Bool → List ℕ → ℕ → Type 0
NoPlainPiece c black text at = (before : ℕ) → ns before ≡ black → goes_on_plain c before (rest text at) ≡ false

-- The run of whitespace and plain characters from the one place goes to the other.
pub record IsPlainRun (c : FlowContext) (black : Bool) (text : List ℕ) (from to : ℕ) : Type 0 where
  pub above : from ≤ to
  pub boundary : IsCharBoundary text to
  pub reads : (before : ℕ) → ns before ≡ black → read_run c before (rest text from) ≡ between text from to

-- ---- further lines

-- A further line begins after a line that ends at the place `at`. A break and this number of empty lines lead to it;
-- what it holds is between `start` and `end`.
pub record IsNextLine (n : ℕ) (c : FlowContext) (text : List ℕ) (at empties start end : ℕ) : Type 0 where
  pub stop : ℕ
  pub after : at ≤ stop
  pub before : stop < start
  pub breaks : line_break (slice_index text stop) ≡ true
  pub holds : start < end
  pub prefix : IsCharBoundary text start
  pub boundary : IsCharBoundary text end
  pub line : Line ℕ
  pub found : plain_lines_at n c (rest text at)
      ≡ (line ∷ (plain_lines_at n c (rest text end)).0, (plain_lines_at n c (rest text end)).1)
  pub means : line_value char_value line ≡ folded_break empties ++ between text start end

-- no further line starts at the place
abbrev pub NoNextLine : ℕ → FlowContext → List ℕ → ℕ → Type 0
NoNextLine n c text at = plain_lines_at n c (rest text at) ≡ ([], rest text at)

-- The first line of a plain scalar is between the two places: it is the whole scalar if no further line follows.
pub record IsFirstLine (c : FlowContext) (text : List ℕ) (at end : ℕ) : Type 0 where
  pub above : at < end
  pub boundary : IsCharBoundary text end
  pub unbroken : list_all no_break (between text at end) ≡ true
  pub whole : (n : ℕ) → NoNextLine n c text end → ScalarAt plain_style n c text at (between text at end) end

-- what the further lines after a place mean
abbrev pub lines_value : ℕ → FlowContext → List ℕ → ℕ → List ℕ
lines_value n c text at = flat_map (line_value char_value) (plain_lines_at n c (rest text at)).0

-- From the line that ends at the place `at` all further ones go to the end, and the value is added to by what they
-- mean.
pub record PushesLines (n : ℕ) (c : FlowContext) (text : List ℕ) (at : ℕ) (line value longer : List ℕ)
    (end : ℕ) : Type 0 where
  pub above : at ≤ end
  pub boundary : IsCharBoundary text end
  pub left : (plain_lines_at n c (rest text at)).1 ≡ rest text end
  pub means : chars longer ≡ chars value ++ line ++ lines_value n c text at
