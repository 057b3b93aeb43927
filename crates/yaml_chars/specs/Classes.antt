-- Classes of characters, over code points (YAML 1.2.2, chapter 5).
use Rattle.std.specs.Prelude.{ℕ, Bool, false, not, ◌&&◌, ◌||◌, nat_le, ◌==◌, List, [], ◌∷◌, codes}
use Rattle.yaml_chars.specs.Signs.{tab, line_feed, carriage_return, space_char, next_line, byte_order_mark}

-- from low to high, both included
abbrev pub in_range : ℕ → ℕ → ℕ → Bool
in_range low high c = nat_le low c && nat_le c high

-- the character is an element of the list
abbrev pub is_in : ℕ → List ℕ → Bool
is_in c [] = false
is_in c (d ∷ ds) = (c == d) || is_in c ds

-- what a character of a text may be: a Unicode scalar value
abbrev pub code_point : ℕ → Bool
code_point c = in_range 0 0xd7ff c || in_range 0xe000 0x10ffff c

-- [1] c-printable, 5.1
abbrev pub printable : ℕ → Bool
printable c =
    is_in c (tab ∷ line_feed ∷ carriage_return ∷ next_line ∷ []) || in_range 0x20 0x7e c || in_range 0xa0 0xd7ff c
    || in_range 0xe000 0xfffd c
    || in_range 0x10000 0x10ffff c

-- [2] nb-json, 5.1: TAB, and everything from the space on
abbrev pub nb_json : ℕ → Bool
nb_json c = (c == tab) || in_range 0x20 0x10ffff c

-- [26] b-char, 5.4: LF or CR
abbrev pub line_break : ℕ → Bool
line_break c = (c == line_feed) || (c == carriage_return)

-- [27] nb-char, 5.4: printable, no break and no byte order mark
abbrev pub nb : ℕ → Bool
nb c = printable c && not (line_break c || (c == byte_order_mark))

-- [33] s-white, 5.5: the space or TAB
abbrev pub white : ℕ → Bool
white c = (c == space_char) || (c == tab)

-- [31] s-space, 5.5
abbrev pub space : ℕ → Bool
space c = c == space_char

-- [34] ns-char, 5.5: nb, and not whitespace
abbrev pub ns : ℕ → Bool
ns c = nb c && not (white c)

-- [22] c-indicator, 5.3
abbrev pub indicator : ℕ → Bool
indicator c = is_in c (codes "-?:,[]{}#&*!|>'\"%@`")

-- [23] c-flow-indicator, 5.3: `,`, `[`, `]`, `{` or `}`
abbrev pub flow_indicator : ℕ → Bool
flow_indicator c = is_in c (codes ",[]{}")
