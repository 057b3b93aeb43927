-- The lines of a block scalar at places of a text, in terms of the recognizers.
use Rattle.std.specs.Prelude.{◌≡◌, ℕ, ◌+◌, ◌<◌, ◌≤◌, Bool, true, false, ◌&&◌, nat_le, List, [], ◌∷◌, ◌++◌, length, drop, Some, is_some}
use Rattle.yaml_block_scalars.specs.Prelude.{IsCharBoundary, chars, rest, between, Chomping, BlockEmptyLine, TextLine, trailing_line_feeds}
use Rattle.yaml_block_scalars.specs.Prelude.{goes_on, spaces_before, past_spaces, text_value, widest, line_feeds, first, all_empties}
use Rattle.yaml_block_scalars.specs.{Prelude.{empties_at, lines_at, Read, on}, Pieces.{is_one_piece, text_after}, declared.line.Line.Line}
use Rattle.yaml_chars.specs.Classes.{white, line_break}

-- no empty line of the indentation q is at the start
abbrev pub IsPastEmpties : ℕ → List ℕ → Type 0
IsPastEmpties q text = nat_le (spaces_before text) q && first line_break (past_spaces text) ≡ false

-- all empty lines of the indentation q from a place on
pub record AreEmpties (q : ℕ) (text : List ℕ) (at count end : ℕ) : Type 0 where
  pub above : at + count ≤ end
  pub boundary : IsCharBoundary text end
  pub counts : length (empties_at q (rest text at)).0 ≡ count
  pub leaves : (empties_at q (rest text at)).1 ≡ rest text end

-- all lines of spaces from a place on, of which the widest has this width
pub record AreLeading (text : List ℕ) (at width end : ℕ) : Type 0 where
  pub above : at ≤ end
  pub boundary : IsCharBoundary text end
  pub widest_is : widest (all_empties (rest text at)).0 ≡ width
  pub leaves : (all_empties (rest text at)).1 ≡ rest text end

-- a line that goes on, and where its text starts
pub record IsTextStart (q : ℕ) (text : List ℕ) (at start : ℕ) : Type 0 where
  pub above : at ≤ start
  pub boundary : IsCharBoundary text start
  pub goes : goes_on q (rest text at) ≡ true
  pub drops : drop q (rest text at) ≡ rest text start

-- the places of a text line
pub record IsPlaced (q : ℕ) (text : List ℕ) (line : Line) : Type 0 where
  pub above : line.start < line.end
  pub empties_fit : line.end + line.empties ≤ line.next
  pub start_boundary : IsCharBoundary text line.start
  pub end_boundary : IsCharBoundary text line.end
  pub next_boundary : IsCharBoundary text line.next
  pub past : IsPastEmpties q (rest text line.next)

-- what is known of a text line
pub record Describes (line : Line) (l : TextLine) : Type 0 where
  pub begins_white : first white l.text ≡ line.white
  pub breaks : is_some l.stop ≡ line.has_break
  pub empties : length l.empties ≡ line.empties

-- the text line at a place, and what is read from there on
pub record IsLine (q : ℕ) (text : List ℕ) (at : ℕ) (line : Line) : Type 0 where
  pub after : at ≤ line.start
  pub placed : IsPlaced q text line
  pub read : TextLine
  pub described : Describes line read
  pub spells : read.text ≡ between text line.start line.end
  pub follows : rest text line.end ≡ text_after read ++ rest text line.next
  pub reads : lines_at q (rest text at) ≡ on (lines_at q (rest text line.next)) (λ ls after. Some (read ∷ ls, after))

-- the value of the text line l and of the lines after it, which are at the start of the text; `prefix` is the value
-- before them
abbrev pub value_from : ℕ → Bool → Chomping → List ℕ → TextLine → List ℕ → Read (List ℕ)
value_from q folded chomping prefix l text =
    on (lines_at q text) (λ ls after. Some (prefix ++ text_value folded chomping l ls, after))

-- the value with the text line first and all lines after it
pub record ArePushed (q : ℕ) (folded : Bool) (chomping : Chomping) (text : List ℕ) (first_line : Line)
    (prefix value : List ℕ) (end : ℕ) : Type 0 where
  pub above : first_line.next ≤ end
  pub boundary : IsCharBoundary text end
  pub reads : (l : TextLine) → Describes first_line l → l.text ≡ between text first_line.start first_line.end
      → value_from q folded chomping (chars prefix) l (rest text first_line.next) ≡ Some (chars value, rest text end)

-- a number of line feeds from a place on
pub record AreFeeds (text : List ℕ) (at count end : ℕ) : Type 0 where
  pub above : at ≤ end
  pub boundary : IsCharBoundary text end
  pub spells : between text at end ≡ line_feeds count

-- No line comes after the text line, no empty line before it, and the line feeds that the value has after its text are
-- there, up to the end.
pub record IsPiece (q : ℕ) (chomping : Chomping) (text : List ℕ) (empties : ℕ) (line : Line) (end : ℕ) : Type 0 where
  pub last : lines_at q (rest text line.next) ≡ Some ([], rest text line.next)
  pub none_before : empties ≡ 0
  pub above : line.end ≤ end
  pub boundary : IsCharBoundary text end
  pub spells : (l : TextLine) → Describes line l → between text line.end end ≡ trailing_line_feeds chomping l

-- the value of the lines is not there in one piece
abbrev pub IsNoPiece : ℕ → Chomping → List ℕ → ℕ → Line → Type 0
IsNoPiece q chomping text empties line =
    (l : TextLine) (gs : List BlockEmptyLine) (ls : List TextLine) (after : List ℕ) → Describes line l
    → rest text line.end ≡ text_after l ++ rest text line.next
    → length gs ≡ empties → lines_at q (rest text line.next) ≡ Some (ls, after)
    → is_one_piece chomping gs (l ∷ ls) ≡ false
