-- Folds between two lines of a flow scalar, at a place of a text: what the recognizer of joins finds there, whatever
-- comes before the break (a backslash, or whitespace).
use Rattle.std.specs.Prelude.{◌≡◌, ℕ, ◌<◌, ◌≤◌, Bool, true, false, List, length, Some, None}
use Rattle.yaml_flow_scalars.specs.Prelude.{IsCharBoundary, rest, between, white, FlowEmptyLine, ends, list_all, Join, after_blank}
use Rattle.{yaml_flow_scalars.specs.Prelude.read_empty, yaml_grammar.specs.Separation.{Break, indents}}
use Rattle.yaml_recognizers.specs.{Comments.read_break, Prefixes.{take_while, drop_while}}

-- The fold begins with the break at the place `at`, has this number of empty lines, and what the next line holds is at
-- the place `next`.
pub record IsFold (n : ℕ) (text : List ℕ) (at empties next : ℕ) : Type 0 where
  pub above : at < next
  pub boundary : IsCharBoundary text next
  pub join : Bool → List ℕ → Join
  pub found : (escaped : Bool) (blank : List ℕ)
      → after_blank escaped n blank (rest text at) ≡ Some (join escaped blank, rest text next)
  pub escapes : (escaped : Bool) (blank : List ℕ) → (join escaped blank).escaped ≡ escaped
  pub counts : (escaped : Bool) (blank : List ℕ) → length (join escaped blank).empties ≡ empties

-- no fold begins there
abbrev pub NoFold : ℕ → List ℕ → ℕ → Type 0
NoFold n text at = (escaped : Bool) (blank : List ℕ) → after_blank escaped n blank (rest text at) ≡ None

-- The place after the whitespace of a line that is indented by n spaces or more, or after the spaces of one that is
-- not. It says whether the line is indented, and that it is an empty line if a break is there.
pub record IsPrefix (n : ℕ) (text : List ℕ) (at end : ℕ) (indented : Bool) : Type 0 where
  pub above : at ≤ end
  pub boundary : IsCharBoundary text end
  pub indent : indents n (take_while white (rest text at)) ≡ indented
  pub skips : indented ≡ true → drop_while white (rest text at) ≡ rest text end
  pub empty : (stop : Break) (after : List ℕ) → read_break (rest text end) ≡ Some (stop, after)
      → (line : FlowEmptyLine) × (read_empty n (rest text at) ≡ Some (line, after))
  pub no_empty : read_break (rest text end) ≡ None → read_empty n (rest text at) ≡ None

-- the whitespace at the end of what is between two places
pub record IsWhiteStart (text : List ℕ) (from start end : ℕ) : Type 0 where
  pub above : from ≤ start
  pub below : start ≤ end
  pub boundary : IsCharBoundary text start
  pub blank : list_all white (between text start end) ≡ true
  pub black : ends white (between text from start) ≡ false
