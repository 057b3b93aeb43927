-- What is at a place of a text, which counts bytes from 0, in the words of the recognizers.
use Rattle.std.specs.Prelude.{◌≡◌, ℕ, ◌-◌, ◌<◌, ◌≤◌, Bool, true, false, ◌||◌, ◌==◌, List, [], ◌∷◌, Option, Some, is_some, slice_index}
use Rattle.std.specs.List.{list_all}
use Rattle.yaml_scan.specs.Prelude.{IsCharBoundary, no_break, space_char, line_break, nb, space, white, rest, between, Break, first}
use Rattle.{yaml_scan.specs.Prelude.{read_break, read_stop, take_while, drop_while}, yaml_grammar.specs.BlockScalars.past_spaces}
use Rattle.yaml_grammar.specs.BlockScalars.{spaces_before}

-- ---- runs

-- all spaces from a place on
pub record AreSpaces (text : List ℕ) (at end : ℕ) : Type 0 where
  pub above : at ≤ end
  pub boundary : IsCharBoundary text end
  pub spaces : (k : ℕ) → at ≤ k → k < end → slice_index text k ≡ space_char
  pub stop : first space (rest text end) ≡ false
  pub counts : spaces_before (rest text at) ≡ end - at
  pub leaves : past_spaces (rest text at) ≡ rest text end

-- all characters from a place on that pass a test
pub record AreTaken (test : ℕ → Bool) (text : List ℕ) (at end : ℕ) : Type 0 where
  pub above : at ≤ end
  pub boundary : IsCharBoundary text end
  pub takes : take_while test (rest text at) ≡ between text at end
  pub leaves : drop_while test (rest text at) ≡ rest text end

-- one character that a line may hold
pub record IsNb (text : List ℕ) (at end : ℕ) : Type 0 where
  pub above : at < end
  pub boundary : IsCharBoundary text end
  pub char : ℕ
  pub splits : rest text at ≡ char ∷ rest text end
  pub fits : nb char ≡ true

-- ---- breaks

-- a break
pub record IsBreak (text : List ℕ) (at end : ℕ) : Type 0 where
  pub above : at < end
  pub boundary : IsCharBoundary text end
  pub break : Break
  pub reads : read_break (rest text at) ≡ Some (break, rest text end)

-- a break, or the end of the text
pub record IsStop (text : List ℕ) (at : ℕ) (has_break : Bool) (end : ℕ) : Type 0 where
  pub above : at ≤ end
  pub boundary : IsCharBoundary text end
  pub stop : Option Break
  pub reads : read_stop (rest text at) ≡ Some (stop, rest text end)
  pub is_break : is_some stop ≡ has_break

-- U+FEFF in UTF-8 (5.2)
abbrev pub byte_order_mark_bytes : List ℕ
byte_order_mark_bytes = 0xef ∷ 0xbb ∷ 0xbf ∷ []

-- no break is between the two places
abbrev pub unbroken_between : List ℕ → ℕ → ℕ → Bool
unbroken_between text from to = list_all no_break (between text from to)

-- ---- signs

-- the character is the sign x
abbrev pub is_sign : ℕ → ℕ → Bool
is_sign x c = c == x

-- what may be after the signs of a marker
abbrev pub ends_word_byte : ℕ → Bool
ends_word_byte b = white b || line_break b
