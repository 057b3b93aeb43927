-- Texts, and what is found in each. The second text is that of its tree in the one style.
use Rattle.std.proofs.Common.{◌≡◌, ℕ, [], ◌∷◌, ◌++◌, codes, replicate, refl}
use Rattle.yaml_style.proofs.Prelude.{next_line, line_separator, paragraph_separator, byte_order_mark}
use Rattle.yaml_style.specs.{declared.finding.Finding.Finding, declared.finding.Rule.Rule, Lines.lines, Findings.findings}
use Rattle.yaml_style.specs.declared.finding.Rule.TheVariants.{TrailingWhitespace, LineEnd, LongLine, NotInStyle}

abbrev on : Rule → ℕ → Finding
on rule line = record { rule = rule; line = line }

in_style : findings (codes "a: \"1\"\nb:\n  - x\n  - \"y: z\"\n") (codes "a: \"1\"\nb:\n  - x\n  - \"y: z\"\n") ≡ []
in_style = refl

-- ---- S1

space_at_the_end : findings (codes "a:  1 \n") (codes "a: \"1\"\n") ≡ on TrailingWhitespace 1 ∷ on NotInStyle 1 ∷ []
space_at_the_end = refl

tab_before_cr_lf : findings (codes "a: b\t\r\n") (codes "a: b\n") ≡ on TrailingWhitespace 1 ∷ on LineEnd 1 ∷ on NotInStyle 1 ∷ []
tab_before_cr_lf = refl

line_of_spaces : findings (codes "a: b\n  \n") (codes "a: b\n") ≡ on TrailingWhitespace 2 ∷ on NotInStyle 2 ∷ []
line_of_spaces = refl

last_line_of_spaces : findings (codes "a: b\n  ") (codes "a: b\n") ≡ on TrailingWhitespace 2 ∷ on LineEnd 2 ∷ on NotInStyle 2 ∷ []
last_line_of_spaces = refl

-- ---- S2

cr_lf : findings (codes "a: b\r\nc: d\r\n") (codes "a: b\nc: d\n") ≡ on LineEnd 1 ∷ on NotInStyle 1 ∷ on LineEnd 2 ∷ []
cr_lf = refl

cr_alone : findings (codes "a: b\rc: d\n") (codes "a: b\nc: d\n") ≡ on LineEnd 1 ∷ on NotInStyle 1 ∷ []
cr_alone = refl

no_last_break : findings (codes "a: b") (codes "a: b\n") ≡ on LineEnd 1 ∷ on NotInStyle 1 ∷ []
no_last_break = refl

cr_before_cr_lf : lines (codes "\r\r\n\n\r") ≡ codes "\r" ∷ codes "\r\n" ∷ codes "\n" ∷ codes "\r" ∷ []
cr_before_cr_lf = refl

no_text : lines [] ≡ []
no_text = refl

-- NEL, LS and PS are no breaks
other_separators : lines (codes "# a" ++ next_line ∷ line_separator ∷ paragraph_separator ∷ codes "b\n")
    ≡ (codes "# a" ++ next_line ∷ line_separator ∷ paragraph_separator ∷ codes "b\n") ∷ []
other_separators = refl

separator_at_the_end : findings (codes "# a" ++ next_line ∷ codes "\na: b\n") (codes "a: b\n") ≡ on NotInStyle 1 ∷ []
separator_at_the_end = refl

-- ---- S3: 120 code points, and one more, of two bytes each

longest_line : findings (codes "# " ++ replicate 118 233 ++ codes "\na: b\n") (codes "a: b\n") ≡ on NotInStyle 1 ∷ []
longest_line = refl

long_line : findings (codes "# " ++ replicate 119 233 ++ codes "\na: b\n") (codes "a: b\n") ≡ on LongLine 1 ∷ on NotInStyle 1 ∷ []
long_line = refl

-- the break is not counted
longest_line_with_cr_lf : findings (codes "# " ++ replicate 118 233 ++ codes "\r\na: b\n") (codes "a: b\n")
    ≡ on LineEnd 1 ∷ on NotInStyle 1 ∷ []
longest_line_with_cr_lf = refl

-- a byte order mark is a character of its line
mark_in_a_long_line : findings (byte_order_mark ∷ codes "# " ++ replicate 118 233 ++ codes "\na: b\n")
    (codes "a: b\n") ≡ on LongLine 1 ∷ on NotInStyle 1 ∷ []
mark_in_a_long_line = refl

-- ---- S4

second_line : findings (codes "a: b\nc:  d\n") (codes "a: b\nc: d\n") ≡ on NotInStyle 2 ∷ []
second_line = refl

mark_at_the_start : findings (byte_order_mark ∷ codes "a: b\n") (codes "a: b\n") ≡ on NotInStyle 1 ∷ []
mark_at_the_start = refl

-- the one style's text and more, and all of it but the last character
more_than_the_style : findings (codes "a: b\n\n") (codes "a: b\n") ≡ on NotInStyle 2 ∷ []
more_than_the_style = refl

less_than_the_style : findings (codes "- x\n- y") (codes "- x\n- y\n") ≡ on LineEnd 2 ∷ on NotInStyle 2 ∷ []
less_than_the_style = refl

-- before the findings of later lines
first_of_two_lines : findings (codes "a:  b\nc: d \n") (codes "a: b\nc: d\n") ≡ on NotInStyle 1 ∷ on TrailingWhitespace 2 ∷ []
first_of_two_lines = refl
