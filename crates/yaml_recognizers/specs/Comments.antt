-- Recognizers of breaks, of the ends of lines, and of comments (YAML 1.2.2, 5.4, 6.6 and 6.7).
use Rattle.std.specs.Prelude.{Bool, List, None, Option, Some, [], if◌then◌else◌, length, not, suc, true, zero, ℕ, ◌&&◌, ◌==◌, ◌||◌, ◌∷◌}
use Rattle.yaml_recognizers.specs.Prelude.{nb, white, Break, LineEnd, cr, cr_lf, lf, line_end_text, is_empty, carriage_return, line_feed}
use Rattle.yaml_recognizers.specs.{Prelude.number_sign, CanonicalComments.is_line_end, Reading.Read, Prefixes.{drop_while, take_while}}

-- [28] b-break, 5.4, after a CR: CR LF, or CR alone
abbrev pub read_cr : List ℕ → Break × List ℕ
read_cr [] = (cr, [])
read_cr (c ∷ cs) = if c == line_feed then (cr_lf, cs) else (cr, c ∷ cs)

-- [28] b-break, 5.4
abbrev pub read_break : List ℕ → Read Break
read_break [] = None
read_break (c ∷ cs) = if c == line_feed then Some (lf, cs) else if c == carriage_return then Some (read_cr cs) else None

-- [76] b-comment, 6.6: a break, or the end of the text
abbrev pub read_stop : List ℕ → Read (Option Break)
read_stop [] = Some (None, [])
read_stop (c ∷ cs) = if c == line_feed then Some (Some lf, cs) else if c == carriage_return
    then (let r = read_cr cs in Some (Some r.0, r.1)) else None

-- a line's end, from its whitespace, its comment and its stop
abbrev pub line_end_with_stop : List ℕ → Option (List ℕ) → Read (Option Break) → Read LineEnd
line_end_with_stop blank comment None = None
line_end_with_stop blank comment (Some r) =
    let e : LineEnd = record { blank = blank; comment = comment; stop = r.0 } in
    if is_empty (line_end_text e) then None else Some (e, r.1)

-- after whitespace: a comment where one is allowed, and the line's end; not the empty text
abbrev pub read_after_blank : Bool → List ℕ → List ℕ → Read LineEnd
read_after_blank bol blank [] = line_end_with_stop blank None (read_stop [])
read_after_blank bol blank (c ∷ cs) =
    if (c == number_sign) && (bol || not (is_empty blank))
    then line_end_with_stop blank (Some (take_while nb cs)) (read_stop (drop_while nb cs))
    else line_end_with_stop blank None (read_stop (c ∷ cs))

-- [77] s-b-comment, 6.6
abbrev pub read_line_end : Bool → List ℕ → Read LineEnd
read_line_end bol text = read_after_blank bol (take_while white text) (drop_while white text)

-- a first comment line, and then as many as the other recognizer finds
abbrev pub more_comments : List ℕ → (List ℕ → List LineEnd × List ℕ) → Read LineEnd → List LineEnd × List ℕ
more_comments text again None = ([], text)
more_comments text again (Some r) = let more = again r.1 in (r.0 ∷ more.0, more.1)

-- the comment lines at the start of the text, at most this number
abbrev pub read_comments : ℕ → Bool → List ℕ → List LineEnd × List ℕ
read_comments zero bol text = ([], text)
read_comments (suc fuel) bol text = more_comments text (λ rest. read_comments fuel true rest) (read_line_end bol text)

-- [79] s-l-comments, 6.6: all comment lines at the start of the text
abbrev pub all_comments : Bool → List ℕ → List LineEnd × List ℕ
all_comments bol text = read_comments (suc (length text)) bol text

-- the comments after a part: they start with the end of its line, unless the text ends there
abbrev pub closes_line : List LineEnd × List ℕ → Bool
closes_line c = (not (is_empty c.0) || is_empty c.1) && not (is_line_end c.1)
