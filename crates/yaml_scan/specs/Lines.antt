-- The end of a line, and the next line that is not whitespace or a comment (YAML 1.2.2, 6.6 and 6.7).
use Rattle.std.specs.Prelude.{◌≡◌, ℕ, ◌<◌, ◌≤◌, Bool, true, false, if◌then◌else◌, List, [], ◌++◌, Option, Some, None}
use Rattle.std.proofs.Math.Logic.{◌⊎◌}
use Rattle.yaml_scan.specs.Prelude.{IsCharBoundary, nb, rest, between, LineEnd, comment_text, first, optional, line_starts, read_stop}
use Rattle.yaml_scan.specs.{Prelude.{line_end_with_stop, read_line_end, all_comments, drop_while, past}, ScanPlaces.AreSpaces}
use Rattle.{yaml_scan.specs.declared.lines.Line.Line, yaml_recognizers.specs.CanonicalComments.{hash, is_line_end}}

-- a line starts at the place, or the text ends there
abbrev pub IsLineStart : List ℕ → ℕ → Type 0
IsLineStart text at = (line_starts text at ≡ true) ⊎ (rest text at ≡ [])

-- what is left after a comment, which may be missing
abbrev pub past_comment : List ℕ → List ℕ
past_comment text = if first hash text then drop_while nb (past text) else text

-- perhaps a comment is between the two places
pub record IsCommentEnd (text : List ℕ) (at end : ℕ) : Type 0 where
  pub above : at ≤ end
  pub boundary : IsCharBoundary text end
  pub leaves : past_comment (rest text at) ≡ rest text end

-- Whitespace and perhaps a comment are between the two places, so that the line ends if a break or the end of the text
-- follows.
pub record IsContentEnd (bol : Bool) (text : List ℕ) (at end : ℕ) : Type 0 where
  pub blank : List ℕ
  pub comment : Option (List ℕ)
  pub reads : read_line_end bol (rest text at) ≡ line_end_with_stop blank comment (read_stop (rest text end))
  pub spells : between text at end ≡ blank ++ optional comment_text comment

-- The end of a line: whitespace, perhaps a comment, and a break or the end of the text, not all empty. Here bol says
-- whether a comment may be at the place itself.
pub record IsLineEnd (bol : Bool) (text : List ℕ) (at end : ℕ) : Type 0 where
  pub above : at < end
  pub boundary : IsCharBoundary text end
  pub line_end : LineEnd
  pub reads : read_line_end bol (rest text at) ≡ Some (line_end, rest text end)
  pub starts : IsLineStart text end

-- the line ends at the last place, if whitespace and perhaps a comment go up to the second
abbrev pub EndsLineAfter : List ℕ → ℕ → ℕ → ℕ → Type 0
EndsLineAfter text at content end =
    (bol : Bool) → IsContentEnd bol text at content → IsLineEnd bol text at end

-- the line does not end after them
abbrev pub NoLineEndAfter : List ℕ → ℕ → ℕ → Type 0
NoLineEndAfter text at content =
    (bol : Bool) → IsContentEnd bol text at content → read_line_end bol (rest text at) ≡ None

-- The line after all comments from a place on, and where its spaces end.
pub record IsSolidLine (bol : Bool) (text : List ℕ) (at : ℕ) (line : Line) : Type 0 where
  pub above : at ≤ line.start
  pub boundary : IsCharBoundary text line.start
  pub leaves : (all_comments bol (rest text at)).1 ≡ rest text line.start
  pub solid : is_line_end (rest text line.start) ≡ false
  pub spaces : AreSpaces text line.start line.first
