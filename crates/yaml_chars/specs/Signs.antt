-- Characters by their names in Unicode: the signs of YAML, and those of the escapes (YAML 1.2.2, 5.3 to 5.7).
use Rattle.std.specs.Prelude.{ℕ}

-- NUL
abbrev pub null : ℕ
null = 0

-- BEL
abbrev pub bell : ℕ
bell = 7

-- BS
abbrev pub backspace : ℕ
backspace = 8

-- TAB
abbrev pub tab : ℕ
tab = 9

-- LF
abbrev pub line_feed : ℕ
line_feed = 10

-- VT
abbrev pub vertical_tab : ℕ
vertical_tab = 11

-- FF
abbrev pub form_feed : ℕ
form_feed = 12

-- CR
abbrev pub carriage_return : ℕ
carriage_return = 13

-- ESC
abbrev pub escape_char : ℕ
escape_char = 27

-- the space
abbrev pub space_char : ℕ
space_char = 32

-- `"`
abbrev pub double_quote : ℕ
double_quote = 34

-- `#`
abbrev pub number_sign : ℕ
number_sign = 35

-- `%`
abbrev pub percent_sign : ℕ
percent_sign = 37

-- `'`
abbrev pub single_quote : ℕ
single_quote = 39

-- `+`
abbrev pub plus : ℕ
plus = 43

-- `,`
abbrev pub comma : ℕ
comma = 44

-- `-`
abbrev pub dash : ℕ
dash = 45

-- `.`
abbrev pub dot : ℕ
dot = 46

-- `0`
abbrev pub digit_zero : ℕ
digit_zero = 48

-- `1`
abbrev pub digit_one : ℕ
digit_one = 49

-- `:`
abbrev pub colon : ℕ
colon = 58

-- `>`
abbrev pub greater : ℕ
greater = 62

-- `?`
abbrev pub question : ℕ
question = 63

-- `L`
abbrev pub capital_l : ℕ
capital_l = 76

-- `N`
abbrev pub capital_n : ℕ
capital_n = 78

-- `P`
abbrev pub capital_p : ℕ
capital_p = 80

-- `[`
abbrev pub open_bracket : ℕ
open_bracket = 91

-- `\`
abbrev pub backslash : ℕ
backslash = 92

-- `]`
abbrev pub close_bracket : ℕ
close_bracket = 93

-- `_`
abbrev pub low_line : ℕ
low_line = 95

-- `a`
abbrev pub small_a : ℕ
small_a = 97

-- `b`
abbrev pub small_b : ℕ
small_b = 98

-- `e`
abbrev pub small_e : ℕ
small_e = 101

-- `f`
abbrev pub small_f : ℕ
small_f = 102

-- `n`
abbrev pub small_n : ℕ
small_n = 110

-- `r`
abbrev pub small_r : ℕ
small_r = 114

-- `t`
abbrev pub small_t : ℕ
small_t = 116

-- `u`
abbrev pub small_u : ℕ
small_u = 117

-- `v`
abbrev pub small_v : ℕ
small_v = 118

-- `x`
abbrev pub small_x : ℕ
small_x = 120

-- `{`
abbrev pub open_brace : ℕ
open_brace = 123

-- `|`
abbrev pub vertical_bar : ℕ
vertical_bar = 124

-- `}`
abbrev pub close_brace : ℕ
close_brace = 125

-- `~`
abbrev pub tilde : ℕ
tilde = 126

-- NEL
abbrev pub next_line : ℕ
next_line = 0x85

-- NBSP
abbrev pub no_break_space : ℕ
no_break_space = 0xa0

-- LS
abbrev pub line_separator : ℕ
line_separator = 0x2028

-- PS
abbrev pub paragraph_separator : ℕ
paragraph_separator = 0x2029

-- BOM
abbrev pub byte_order_mark : ℕ
byte_order_mark = 0xfeff
