-- Block scalars: literal and folded (YAML 1.2.2, 8.1).
-- The number m is n + 1, the least indentation that a block scalar below an indentation of n may have. At the top of a
-- document n is -1, so m is 0.
use Rattle.std.specs.Prelude.{ℕ, suc, ◌+◌, ◌-◌, max, Bool, true, false, not, ◌&&◌, ◌||◌, nat_le, nat_lt, ◌==◌, List, [], ◌∷◌, ◌++◌, length}
use Rattle.std.specs.{Prelude.{Option, Some, None, is_some, codes, flat_map, if◌then◌else◌}, List.list_all}
use Rattle.{yaml_chars.specs.{Signs.digit_zero, Classes.{in_range, line_break, white, space, nb}}, yaml_grammar.specs.Texts.is_empty}
use Rattle.yaml_grammar.specs.{Texts.{first, begins, spaces, optional, byte_len, no_marker}, Separation.{Break, break_text, break_fits}}
use Rattle.yaml_grammar.specs.Separation.{stop_fits, LineEnd, line_end_text, line_end_fits, comments_text, comments_fit}
use Rattle.yaml_grammar.specs.{FlowScalars.{line_feeds, folded_break}, Events.{Event, scalar_event, literal_style, folded_style}}

-- ---- presentations

-- [164] c-chomping-indicator, 8.1.1.2
pub data Chomping : Type 0 where
  strip clip keep : Chomping

-- [162] c-b-block-header, 8.1.1: the digit is before or after the chomping mark; then the line ends
pub record Header : Type 0 where
  pub folded : Bool
  pub digit : Option ℕ
  pub chomping : Chomping
  pub digit_last : Bool
  pub line_end : LineEnd

-- [70] l-empty, 6.4, in a block scalar: how many spaces the empty line has, and its break
pub record BlockEmptyLine : Type 0 where
  pub width : ℕ
  pub stop : Break

-- [171] l-nb-literal-text, 8.1.2, [175] s-nb-folded-text and [177] s-nb-spaced-text, 8.1.3: a text line after its
-- indentation, and the empty lines after it
pub record TextLine : Type 0 where
  pub text : List ℕ
  pub stop : Option Break
  pub empties : List BlockEmptyLine

-- [173] l-literal-content, 8.1.2, and [182] l-folded-content, 8.1.3: what is between the header and the comments: empty
-- lines, and text lines, whose indentation this is
pub record Body : Type 0 where
  pub indent : ℕ
  pub empties : List BlockEmptyLine
  pub texts : List TextLine

-- [170] c-l+literal and [174] c-l+folded, 8.1: a header, a body, and the comments after them
pub record BlockScalar : Type 0 where
  pub header : Header
  pub body : Body
  pub trail : List LineEnd

-- ---- what they spell

-- [163] c-indentation-indicator, 8.1.1.1
abbrev pub digit_text : ℕ → List ℕ
digit_text d = (digit_zero + d) ∷ []

-- [164] c-chomping-indicator, 8.1.1.2: `-` for strip, `+` for keep, nothing for clip
abbrev pub chomping_text : Chomping → List ℕ
chomping_text strip = codes "-"
chomping_text clip = []
chomping_text keep = codes "+"

-- [162] c-b-block-header, 8.1.1: the text of a header, with `|` or `>` and the end of its line
abbrev pub header_text : Header → List ℕ
header_text h =
    (if h.folded then codes ">" else codes "|")
    ++ (if h.digit_last then chomping_text h.chomping ++ optional digit_text h.digit
    else optional digit_text h.digit ++ chomping_text h.chomping)
    ++ line_end_text h.line_end

-- the text of an empty line
abbrev pub block_empty_text : BlockEmptyLine → List ℕ
block_empty_text g = spaces g.width ++ break_text g.stop

-- the text of empty lines
abbrev pub block_empties_text : List BlockEmptyLine → List ℕ
block_empties_text gs = flat_map block_empty_text gs

-- the text of a text line at the indentation q, and of the empty lines after it
abbrev pub text_line_text : ℕ → TextLine → List ℕ
text_line_text q l = spaces q ++ l.text ++ optional break_text l.stop ++ block_empties_text l.empties

-- the text of text lines
abbrev pub text_lines_text : ℕ → List TextLine → List ℕ
text_lines_text q ls = flat_map (text_line_text q) ls

-- the text of a body
abbrev pub body_text : Body → List ℕ
body_text b = block_empties_text b.empties ++ text_lines_text b.indent b.texts

-- the text of the scalar without the comments after it
abbrev pub bare_block_text : BlockScalar → List ℕ
bare_block_text b = header_text b.header ++ body_text b.body

-- the text of the scalar, with the comments after it
abbrev pub block_text : BlockScalar → List ℕ
block_text b = bare_block_text b ++ comments_text b.trail

-- ---- lines

-- [70] l-empty, 6.4: an empty line has at most q spaces, then a break
abbrev pub block_empties_fit : ℕ → List BlockEmptyLine → List ℕ → Bool
block_empties_fit q [] after = true
block_empties_fit q (g ∷ gs) after =
    nat_le g.width q && break_fits g.stop (block_empties_text gs ++ after) && block_empties_fit q gs after

-- [171] l-nb-literal-text, 8.1.2, and [175], [177], 8.1.3: a text line has q spaces and at least one character after
-- them, which may be whitespace, and doesn't start as a marker
abbrev pub text_line_fits : ℕ → TextLine → List ℕ → Bool
text_line_fits q l after =
    not (is_empty l.text) && list_all nb l.text && no_marker true (text_line_text q l ++ after)
    && stop_fits l.stop (block_empties_text l.empties ++ after) && block_empties_fit q l.empties after

-- [173] l-literal-content, 8.1.2, and [182] l-folded-content, 8.1.3: each of the text lines fits
abbrev pub text_lines_fit : ℕ → List TextLine → List ℕ → Bool
text_lines_fit q [] after = true
text_lines_fit q (l ∷ ls) after = text_line_fits q l (text_lines_text q ls ++ after) && text_lines_fit q ls after

-- how many spaces the text starts with
abbrev pub spaces_before : List ℕ → ℕ
spaces_before [] = 0
spaces_before (c ∷ cs) = if space c then suc (spaces_before cs) else 0

-- what comes after those spaces
abbrev pub past_spaces : List ℕ → List ℕ
past_spaces [] = []
past_spaces (c ∷ cs) = if space c then past_spaces cs else c ∷ cs

-- the line that starts here is a text line ([171], 8.1.2; [175], [177], 8.1.3) or an empty line ([70], 6.4) at the
-- indentation q
abbrev pub goes_on : ℕ → List ℕ → Bool
goes_on q text =
    let s = spaces_before text in
    let rest = past_spaces text in
    nat_lt q s || (nat_le s q && first line_break rest) || ((s == q) && first nb rest && no_marker true text)

-- ---- the indentation (8.1.1.1)

-- how many spaces the widest of the empty lines has
abbrev pub widest : List BlockEmptyLine → ℕ
widest [] = 0
widest (g ∷ gs) = max g.width (widest gs)

-- how many spaces there are, if nothing else comes before the end of the text
abbrev pub last_spaces : List ℕ → ℕ
last_spaces text = if is_empty (past_spaces text) then spaces_before text else 0

-- The line here sets no indentation of m or more: it has only spaces up to the end of the text, or too few spaces, or
-- starts as a marker.
abbrev pub sets_none : ℕ → List ℕ → Bool
sets_none m text = is_empty (past_spaces text) || nat_lt (spaces_before text) m || not (no_marker true text)

-- 8.1.1.1: Without a digit, the indentation is that of the first line that holds something other than spaces. No line
-- of spaces before it is wider, as for all empty lines. If that line sets none, the indentation is the width of the
-- widest line of spaces, and at least m.
abbrev pub is_detected_indent : ℕ → ℕ → List BlockEmptyLine → List TextLine → List ℕ → Bool
is_detected_indent m q empties [] after = (q == max m (max (widest empties) (last_spaces after))) && sets_none m after
is_detected_indent m q empties (l ∷ ls) after = nat_le m q && not (begins (spaces 1) l.text)

-- the indentation (8.1.1.1)
abbrev pub indent_fits : Option ℕ → ℕ → ℕ → List BlockEmptyLine → List TextLine → List ℕ → Bool
-- [163] c-indentation-indicator, 8.1.1.1: with a digit d it is n + d, and d at the top of a document
indent_fits (Some d) m q empties texts after = q == (m - 1) + d
-- 8.1.1.1: without a digit it is detected
indent_fits None m q empties texts after = is_detected_indent m q empties texts after

-- ---- what a block scalar has to meet

-- [169] l-trail-comments, 8.1.1.2: the comments after the scalar start with a line that has its `#` after fewer than q
-- spaces
abbrev pub trail_fits : ℕ → List LineEnd → List ℕ → Bool
trail_fits q [] after = true
trail_fits q (e ∷ es) after =
    is_some e.comment && list_all space e.blank && nat_lt (length e.blank) q && comments_fit true (e ∷ es) after

-- [163] c-indentation-indicator, 8.1.1.1: the digit is from 1 to 9, if there is one
abbrev pub digit_fits : Option ℕ → Bool
digit_fits None = true
digit_fits (Some d) = in_range 1 9 d

-- [162] c-b-block-header, 8.1.1: what a header has to meet
abbrev pub header_fits : Header → List ℕ → Bool
header_fits h after = digit_fits h.digit && line_end_fits false h.line_end after

-- [173] l-literal-content, 8.1.2, and [182] l-folded-content, 8.1.3: what a body has to meet, after a header with this
-- digit or none; no line after it goes on with it
abbrev pub body_fits : Option ℕ → ℕ → Body → List ℕ → Bool
body_fits digit m b after =
    indent_fits digit m b.indent b.empties b.texts after
    && block_empties_fit b.indent b.empties (text_lines_text b.indent b.texts ++ after)
    && text_lines_fit b.indent b.texts after && not (goes_on b.indent after)

-- [170] c-l+literal and [174] c-l+folded, 8.1: what a block scalar has to meet
abbrev pub block_fits : ℕ → BlockScalar → List ℕ → Bool
block_fits m b after =
    let rest = comments_text b.trail ++ after in
    header_fits b.header (body_text b.body ++ rest) && body_fits (b.header).digit m b.body rest
    && trail_fits (b.body).indent b.trail after

-- ---- the value (8.1.1.2, 8.1.2, 8.1.3)

-- Between two text lines each break and each empty line is a line feed. In a folded scalar, a break between lines that
-- do not start with whitespace is folded ([176] to [181], 8.1.3).
abbrev pub between_lines : Bool → TextLine → TextLine → List ℕ
between_lines folded l next_line =
    if not folded || first white l.text || first white next_line.text
    then line_feeds (suc (length l.empties)) else folded_break (length l.empties)

-- [165] b-chomped-last and [166] l-chomped-empty, 8.1.1.2: the line feeds after the last text line
abbrev pub trailing_line_feeds : Chomping → TextLine → List ℕ
trailing_line_feeds strip l = []
trailing_line_feeds clip l = if is_some l.stop then line_feeds 1 else []
trailing_line_feeds keep l = (if is_some l.stop then line_feeds 1 else []) ++ line_feeds (length l.empties)

-- [173] l-literal-content and [182] l-folded-content: the value of text lines
abbrev pub text_value : Bool → Chomping → TextLine → List TextLine → List ℕ
text_value folded chomping l [] = l.text ++ trailing_line_feeds chomping l
text_value folded chomping l (m ∷ ms) = l.text ++ between_lines folded l m ++ text_value folded chomping m ms

-- [166] l-chomped-empty, 8.1.1.2: the value without any text line
abbrev pub value_without_lines : Chomping → ℕ → List ℕ
value_without_lines strip n = []
value_without_lines clip n = []
value_without_lines keep n = line_feeds n

-- [173], 8.1.2, and [182], 8.1.3: the value, from the empty lines before the first text line, and the text lines with
-- the empty lines after each
abbrev pub block_value : Bool → Chomping → List BlockEmptyLine → List TextLine → List ℕ
block_value folded chomping empties [] = value_without_lines chomping (length empties)
block_value folded chomping empties (l ∷ ls) = line_feeds (length empties) ++ text_value folded chomping l ls

-- The event of a block scalar. Its range goes from the header through the last text line or empty line, or through the
-- header's line.
abbrev pub block_events : ℕ → BlockScalar → List Event
block_events at b =
    scalar_event (if (b.header).folded then folded_style else literal_style) at (at + byte_len (bare_block_text b))
    (block_value (b.header).folded (b.header).chomping (b.body).empties (b.body).texts) ∷ []
