-- The recognizer of block scalars (YAML 1.2.2, 8.1): the header, the indentation, the lines, and the comments after
-- them.
use Rattle.std.specs.Prelude.{Bool, List, None, Option, Some, [], drop, false, if◌then◌else◌, is_some, length, max, nat_le, nat_lt, suc}
use Rattle.std.specs.Prelude.{true, zero, ℕ, ◌&&◌, ◌+◌, ◌-◌, ◌==◌, ◌∷◌}
use Rattle.yaml_recognizers.specs.Prelude.{in_range, nb, BlockScalar, Body, Chomping, BlockEmptyLine, Header, TextLine, clip, goes_on, keep}
use Rattle.yaml_recognizers.specs.Prelude.{last_spaces, past_spaces, sets_none, spaces_before, strip, widest, Break, LineEnd, first, dash}
use Rattle.yaml_recognizers.specs.{Prelude.{digit_zero, greater, plus, vertical_bar}, CanonicalComments.{hash, is_line_end}}
use Rattle.yaml_recognizers.specs.{Prefixes.{drop_while, take_while}, Reading.{Read, on}, Comments.{all_comments, read_break}}
use Rattle.yaml_recognizers.specs.Comments.{read_line_end, read_stop}

-- ---- the header

-- [163] c-indentation-indicator, 8.1.1.1, or none
abbrev pub read_digit : List ℕ → Option ℕ × List ℕ
read_digit [] = (None, [])
read_digit (c ∷ cs) = if in_range 49 57 c then (Some (c - digit_zero), cs) else (None, c ∷ cs)

-- [164] c-chomping-indicator, 8.1.1.2
abbrev pub read_mark : List ℕ → Chomping × List ℕ
read_mark [] = (clip, [])
read_mark (c ∷ cs) = if c == dash then (strip, cs) else if c == plus then (keep, cs) else (clip, c ∷ cs)

-- [77] s-b-comment, 6.6: the end of the header's line, which is empty at the end of the text
abbrev pub read_header_end : List ℕ → Read LineEnd
read_header_end [] = Some (record { blank = []; comment = None; stop = None }, [])
read_header_end (c ∷ cs) = read_line_end false (c ∷ cs)

-- the header, from its parts and the end of its line
abbrev pub header_at : Bool → Option ℕ → Chomping → Bool → List ℕ → Read Header
header_at folded digit chomping last text =
    on (read_header_end text) (λ e rest. Some
    (record { folded = folded; digit = digit; chomping = chomping; digit_last = last; line_end = e }, rest))

-- after a mark other than clip a digit may come
abbrev pub after_mark : Bool → Chomping × List ℕ → Read Header
after_mark folded (clip, text) = header_at folded None clip false text
after_mark folded (strip, text) = (let d = read_digit text in header_at folded d.0 strip (is_some d.0) d.1)
after_mark folded (keep, text) = (let d = read_digit text in header_at folded d.0 keep (is_some d.0) d.1)

-- after a digit a mark may come
abbrev pub after_digit : Bool → Option ℕ × List ℕ → Read Header
after_digit folded (None, text) = after_mark folded (read_mark text)
after_digit folded (Some d, text) = (let m = read_mark text in header_at folded (Some d) m.0 false m.1)

-- [162] c-b-block-header, 8.1.1
abbrev pub read_header : List ℕ → Read Header
read_header [] = None
read_header (c ∷ cs) = if c == greater then after_digit true (read_digit cs) else if c == vertical_bar
    then after_digit false (read_digit cs) else None

-- ---- lines

-- a first empty line, and then as many as the other recognizer finds
abbrev pub more_empties : ℕ → List ℕ → (List ℕ → List BlockEmptyLine × List ℕ) → Read Break
    → List BlockEmptyLine × List ℕ
more_empties width text again None = ([], text)
more_empties width text again (Some r) = let more = again r.1 in (record { width = width; stop = r.0 } ∷ more.0, more.1)

-- the lines of spaces at the start of the text whose widths pass p, at most this number
abbrev pub read_empties : ℕ → (ℕ → Bool) → List ℕ → List BlockEmptyLine × List ℕ
read_empties zero p text = ([], text)
read_empties (suc fuel) p text =
    if p (spaces_before text)
    then more_empties (spaces_before text) text (λ rest. read_empties fuel p rest) (read_break (past_spaces text))
    else ([], text)

-- all lines of spaces whose widths pass p
abbrev pub empties_of : (ℕ → Bool) → List ℕ → List BlockEmptyLine × List ℕ
empties_of p text = read_empties (suc (length text)) p text

-- [70] l-empty, 6.4: the empty lines at an indentation
abbrev pub empties_at : ℕ → List ℕ → List BlockEmptyLine × List ℕ
empties_at q text = empties_of (λ w. nat_le w q) text

-- all lines of spaces
abbrev pub all_empties : List ℕ → List BlockEmptyLine × List ℕ
all_empties text = empties_of (λ _. true) text

-- [171], 8.1.2, [175] and [177], 8.1.3: the line after its indentation, and the empty lines after it
abbrev pub read_text_line : ℕ → List ℕ → Read TextLine
read_text_line q line =
    on (read_stop (drop_while nb line))
    (λ stop rest. let g = empties_at q rest in Some
    (record { text = take_while nb line; stop = stop; empties = g.0 }, g.1))

-- the text lines at the start of the text, up to the first line that is neither a text line nor empty
abbrev pub read_text_lines : ℕ → ℕ → List ℕ → Read (List TextLine)
read_text_lines zero q text = None
read_text_lines (suc fuel) q text =
    if goes_on q text
    then on (read_text_line q (drop q text))
    (λ l rest. on (read_text_lines fuel q rest) (λ ls after. Some (l ∷ ls, after)))
    else Some ([], text)

-- all text lines at an indentation
abbrev pub lines_at : ℕ → List ℕ → Read (List TextLine)
lines_at q text = read_text_lines (suc (length text)) q text

-- ---- the indentation

-- 8.1.1.1: The indentation, from the lines of spaces at the start and what comes after them. None if a line of spaces
-- is too wide, or if the first other line starts with no character that a text line may have.
abbrev pub indent_after : ℕ → List BlockEmptyLine × List ℕ → Option ℕ
indent_after m g =
    if sets_none m g.1 then Some (max m (max (widest g.0) (last_spaces g.1)))
    else if nat_le (widest g.0) (spaces_before g.1) && first nb (past_spaces g.1) then Some (spaces_before g.1)
    else None

-- the indentation, from the digit or from the lines
abbrev pub find_indent : Option ℕ → ℕ → List ℕ → Option ℕ
find_indent (Some d) m text = Some ((m - 1) + d)
find_indent None m text = indent_after m (all_empties text)

-- ---- the scalar

-- a body, once its indentation is known
abbrev pub body_at : List ℕ → Option ℕ → Read Body
body_at text None = None
body_at text (Some q) =
    let g = empties_at q text in
    on (lines_at q g.1) (λ ls rest. Some (record { indent = q; empties = g.0; texts = ls }, rest))

-- [173] l-literal-content, 8.1.2, and [182] l-folded-content, 8.1.3: a body, from the digit and the least indentation
abbrev pub read_body : Option ℕ → ℕ → List ℕ → Read Body
read_body digit m text = body_at text (find_indent digit m text)

-- [169] l-trail-comments, 8.1.1.2: a comment line with its `#` after fewer than q spaces starts here
abbrev pub trail_here : ℕ → List ℕ → Bool
trail_here q text = nat_lt (spaces_before text) q && first hash (past_spaces text) && is_line_end text

-- [169] l-trail-comments, 8.1.1.2
abbrev pub read_trail : ℕ → List ℕ → List LineEnd × List ℕ
read_trail q text = if trail_here q text then all_comments true text else ([], text)

-- the scalar, from its parts
abbrev pub block_of : Header → Body → List LineEnd → BlockScalar
block_of h b trail = record { header = h; body = b; trail = trail }

-- [170] c-l+literal and [174] c-l+folded, 8.1
abbrev pub read_block : ℕ → List ℕ → Read BlockScalar
read_block m text =
    on (read_header text) (λ h rest. on (read_body h.digit m rest) (λ b after.
    let t = read_trail b.indent after in Some (block_of h b t.0, t.1)))
