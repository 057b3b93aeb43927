-- What is found in a text: each rule, and the findings in order.
use Rattle.std.specs.Prelude.{ℕ, suc, Bool, true, false, not, ◌==◌, nat_lt, List, [], ◌∷◌, ◌++◌, length, codes, if◌then◌else◌, Option, Some}
use Rattle.std.specs.Prelude.{None}
use Rattle.yaml_style.specs.{Prelude.{insert, position_or_len, white, line_feed, same_text}, declared.finding.{Finding.Finding, Rule.Rule}}
use Rattle.yaml_style.specs.{declared.finding.Rule.TheVariants.{TrailingWhitespace, LineEnd, LongLine, NotInStyle}, Lines.{lines, content}}
use Rattle.yaml_style.specs.Lines.{line_end, breaks}

-- the name of a rule
abbrev pub name_of : Rule → List ℕ
name_of TrailingWhitespace = codes "S1"
name_of LineEnd = codes "S2"
name_of LongLine = codes "S3"
name_of NotInStyle = codes "S4"

-- ---- the rules

-- S1, of a line without its break: its last character is a space or TAB
abbrev pub ends_in_white : List ℕ → Bool
ends_in_white [] = false
ends_in_white (c ∷ []) = white c
ends_in_white (c ∷ d ∷ cs) = ends_in_white (d ∷ cs)

-- S2, of a line's break: it is not LF
abbrev pub ends_otherwise : List ℕ → Bool
ends_otherwise ending = not (same_text ending (line_feed ∷ []))

-- S3, of a line without its break: it has more than 120 code points
abbrev pub is_long : List ℕ → Bool
is_long line = nat_lt 120 (length line)

-- the longest prefix that two texts share
abbrev pub common : List ℕ → List ℕ → List ℕ
common [] ds = []
common (c ∷ cs) [] = []
common (c ∷ cs) (d ∷ ds) = if c == d then c ∷ common cs ds else []

-- S4, of a text and that of its tree in the one style: the line on which they first differ, from 1. The prefix that
-- they share doesn't end inside a CR LF, since the one style has no CR.
abbrev pub style_line : List ℕ → List ℕ → Option ℕ
style_line text styled = if same_text text styled then None else Some (suc (breaks (common text styled)))

-- ---- the findings

-- a finding, if the rule is broken
abbrev pub found : Bool → Rule → ℕ → List Finding
found false rule line = []
found true rule line = record { rule = rule; line = line } ∷ []

-- on the line of this number, in the order of the rules
abbrev pub on_line : ℕ → List ℕ → List Finding
on_line number line =
    found (ends_in_white (content line)) TrailingWhitespace number
    ++ found (ends_otherwise (line_end line)) LineEnd number
    ++ found (is_long (content line)) LongLine number

-- on lines that are numbered from here on
abbrev pub line_findings : ℕ → List (List ℕ) → List Finding
line_findings number [] = []
line_findings number (line ∷ more) = on_line number line ++ line_findings (suc number) more

-- the finding of S4 among the others: before the first one on a later line
abbrev pub with_style : Option ℕ → List Finding → List Finding
with_style None others = others
with_style (Some line) others =
    insert others (position_or_len (λ f. nat_lt line f.line) others) record { rule = NotInStyle; line = line }

-- all findings of a text, given that of its tree in the one style
abbrev pub findings : List ℕ → List ℕ → List Finding
findings text styled = with_style (style_line text styled) (line_findings 1 (lines text))
