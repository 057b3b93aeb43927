-- The recognizer of the separation between two parts of a flow node, which may be left out (YAML 1.2.2, 6.7).
use Rattle.std.specs.Prelude.{ℕ, Bool, true, false, List, [], ◌∷◌, length, Option, Some, None, if◌then◌else◌}
use Rattle.yaml_recognizers.specs.{Prelude.{white, LineEnd, Sep, inline, lines, indents}, Prefixes.{take_while, drop_while}, Reading.Read}
use Rattle.yaml_recognizers.specs.Comments.{read_line_end, read_comments}

-- a gap, and the rest of the text
abbrev pub GapRead : Type 0
GapRead = Option Sep × List ℕ

-- whitespace on the line
abbrev pub inline_gap : List ℕ → List ℕ → GapRead
inline_gap [] rest = (None, rest)
inline_gap (c ∷ cs) rest = (Some (inline (c ∷ cs)), rest)

-- comment lines, and the whitespace of the line after them
abbrev pub lines_gap : ℕ → List ℕ → List LineEnd → List ℕ → List ℕ → GapRead
lines_gap n text comments lead rest = if indents n lead then (Some (lines comments lead), rest) else (None, text)

-- the gap after the end of a line
abbrev pub gap_after : ℕ → List ℕ → LineEnd → List LineEnd × List ℕ → GapRead
gap_after n text e more = lines_gap n text (e ∷ more.0) (take_while white more.1) (drop_while white more.1)

-- the gap, from the end of the line if there is one
abbrev pub gap_from : ℕ → List ℕ → Read LineEnd → GapRead
gap_from n text None = inline_gap (take_while white text) (drop_while white text)
gap_from n text (Some r) = gap_after n text r.0 (read_comments (length text) true r.1)

-- [80] s-separate, 6.7, or nothing; in a key it is on one line
abbrev pub read_gap : ℕ → Bool → List ℕ → GapRead
read_gap n true text = inline_gap (take_while white text) (drop_while white text)
read_gap n false text = gap_from n text (read_line_end false text)
