-- Line breaks, comments, and what may separate two parts of a node (YAML 1.2.2, 5.4 and 6.1 to 6.7).
-- Each part of a presentation is a value, and `.._text` is the text that it spells. Its conditions are `.._fits`. They
-- take bol, which says whether the part is at the start of a line, and `after`, the whole text after the part.
use Rattle.std.specs.{Prelude.{ℕ, Bool, true, false, not, ◌&&◌, ◌||◌, List, [], ◌∷◌, ◌++◌, Option, Some, None, flat_map}, List.list_all}
use Rattle.{yaml_chars.specs.{Signs.{line_feed, carriage_return, number_sign}, Classes.{white, nb}}, yaml_grammar.specs.Texts.is_empty}
use Rattle.yaml_grammar.specs.Texts.{begins, spaces, optional}

-- ---- breaks (5.4)

-- [28] b-break, 5.4: LF, CR LF or CR
pub data Break : Type 0 where
  lf cr cr_lf : Break

-- [28] b-break, 5.4: the characters of a break
abbrev pub break_text : Break → List ℕ
break_text lf = line_feed ∷ []
break_text cr = carriage_return ∷ []
break_text cr_lf = carriage_return ∷ line_feed ∷ []

-- [28] b-break, 5.4: a CR before an LF is one break with it
abbrev pub break_fits : Break → List ℕ → Bool
break_fits lf after = true
break_fits cr after = not (begins (line_feed ∷ []) after)
break_fits cr_lf after = true

-- [76] b-comment, 6.6: a break, or the end of the text
abbrev pub stop_fits : Option Break → List ℕ → Bool
-- [76] b-comment, 6.6: the end of the text
stop_fits None after = is_empty after
-- [28] b-break, 5.4
stop_fits (Some b) after = break_fits b after

-- ---- the end of a line: whitespace, a comment, and a break or the end of the text (6.6)

-- [77] s-b-comment, 6.6: whitespace, perhaps a comment, and a break or the end of the text
pub record LineEnd : Type 0 where
  pub blank : List ℕ
  pub comment : Option (List ℕ)
  pub stop : Option Break

-- [75] c-nb-comment-text, 6.6: `#` and the characters after it
abbrev pub comment_text : List ℕ → List ℕ
comment_text text = number_sign ∷ text

-- the text of a line's end
abbrev pub line_end_text : LineEnd → List ℕ
line_end_text e = e.blank ++ optional comment_text e.comment ++ optional break_text e.stop

-- [77] s-b-comment, 6.6: a comment is at the start of a line or after whitespace
abbrev pub comment_fits : Bool → Option (List ℕ) → Bool
comment_fits apart None = true
comment_fits apart (Some text) = apart && list_all nb text

-- [77] s-b-comment, 6.6: what a line's end has to meet
abbrev pub line_end_fits : Bool → LineEnd → List ℕ → Bool
line_end_fits bol e after =
    list_all white e.blank && comment_fits (bol || not (is_empty e.blank)) e.comment && stop_fits e.stop after

-- [78] l-comment, 6.6: the same where it isn't empty: a line of whitespace or a comment, or the end of the line before
-- it
abbrev pub comment_line_fits : Bool → LineEnd → List ℕ → Bool
comment_line_fits bol e after = not (is_empty (line_end_text e)) && line_end_fits bol e after

-- ---- comments: the end of a line, or the start of one; then comment lines (6.6, 6.7)
-- They are a list of lines. The start of a line, and an empty end at the end of the text, add no line to it.

-- [79] s-l-comments, 6.6: the text of comments, line by line
abbrev pub comments_text : List LineEnd → List ℕ
comments_text es = flat_map line_end_text es

-- [79] s-l-comments, 6.6: each of the lines is a comment line, in its place
abbrev pub comments_fit : Bool → List LineEnd → List ℕ → Bool
comments_fit bol [] after = bol || is_empty after
comments_fit bol (e ∷ es) after = comment_line_fits bol e (comments_text es ++ after) && comments_fit true es after

-- ---- separation (6.7): whitespace on the line, or the line's start; or comments, and then an indentation of at least
-- n

-- [80] s-separate, 6.7: whitespace on the line; or comments, and the indentation and whitespace of the line after them
pub data Sep : Type 0 where
  inline : List ℕ → Sep
  lines : List LineEnd → List ℕ → Sep

-- the text of a separation
abbrev pub sep_text : Sep → List ℕ
sep_text (inline blank) = blank
sep_text (lines comments lead) = comments_text comments ++ lead

-- [69] s-flow-line-prefix, 6.3: n spaces, then whitespace
abbrev pub indents : ℕ → List ℕ → Bool
indents n blank = list_all white blank && begins (spaces n) blank

-- what a separation has to meet; in a key on one line ([80], block-key and flow-key) it is on that line
abbrev pub sep_fits : ℕ → Bool → Bool → Sep → List ℕ → Bool
-- [66] s-separate-in-line, 6.2
sep_fits n key bol (inline blank) after = list_all white blank && (bol || not (is_empty blank))
-- [81] s-separate-lines, 6.7
sep_fits n key bol (lines comments lead) after = not key && comments_fit bol comments (lead ++ after) && indents n lead

-- a separation that may be left out, after something on its line
abbrev pub gap_text : Option Sep → List ℕ
gap_text gap = optional sep_text gap

-- [80] s-separate, 6.7: what a separation that may be left out has to meet
abbrev pub gap_fits : ℕ → Bool → Option Sep → List ℕ → Bool
gap_fits n key None after = true
gap_fits n key (Some sep) after = sep_fits n key false sep after
