-- The one style: the text of a tree, with the same indentation, quotes and order everywhere.
use Rattle.std.specs.Prelude.{ℕ, zero, suc, ◌+◌, ◌/◌, ◌%◌, Bool, true, false, not, ◌&&◌, ◌||◌, nat_le, nat_lt, ◌==◌, List, [], ◌∷◌, ◌++◌}
use Rattle.std.specs.{Prelude.{length, codes, if◌then◌else◌}, List.list_all}
use Rattle.yaml_chars.specs.Signs.{null, bell, backspace, tab, line_feed, vertical_tab, form_feed, carriage_return, escape_char, space_char}
use Rattle.yaml_chars.specs.Signs.{double_quote, digit_zero, backslash, small_a, small_b, small_e, small_f, small_n, small_r, small_t}
use Rattle.yaml_chars.specs.{Signs.{small_v, tilde, no_break_space, line_separator, paragraph_separator, byte_order_mark}, Classes.in_range}
use Rattle.{yaml_chars.specs.Classes.{is_in, printable}, yaml_grammar.specs.{Texts.{first, same_text, spaces}, Trees.{Tree, text}}}
use Rattle.yaml_grammar.specs.Trees.{sequence, mapping, Elements, no_element, element, Members, no_member, member}

-- ---- which style a scalar has

-- an ASCII letter
abbrev pub letter : ℕ → Bool
letter c = in_range 65 90 c || in_range 97 122 c

-- a letter, a digit, or `_`, `-`, `.` or `/`
abbrev pub word_char : ℕ → Bool
word_char c = letter c || in_range 48 57 c || is_in c (codes "_-./")

-- the text in small ASCII letters
abbrev pub lower : List ℕ → List ℕ
lower [] = []
lower (c ∷ cs) = (if in_range 65 90 c then c + 32 else c) ∷ lower cs

-- the text is one of these
abbrev pub is_among : List ℕ → List (List ℕ) → Bool
is_among value [] = false
is_among value (w ∷ ws) = same_text value w || is_among value ws

-- words that other schemas and versions of YAML take for something other than text
abbrev pub special_words : List (List ℕ)
special_words = codes "null" ∷ codes "true" ∷ codes "false" ∷ codes "yes" ∷ codes "no" ∷ codes "on" ∷ codes "off"
    ∷ codes "y" ∷ codes "n" ∷ []

-- a word: it starts with a letter, has at most 128 characters, and is no special word in any letter case
abbrev pub plain_in_style : List ℕ → Bool
plain_in_style value = first letter value && list_all word_char value && nat_le (length value) 128
    && not (is_among (lower value) special_words)

-- a character that is written as itself between double quotes and in a literal
abbrev pub shown : ℕ → Bool
shown c =
    in_range space_char tilde c
    || (nat_le no_break_space c && printable c
    && not (is_in c (line_separator ∷ paragraph_separator ∷ byte_order_mark ∷ [])))

-- a shown character or a line feed
abbrev pub shown_or_feed : ℕ → Bool
shown_or_feed c = shown c || (c == line_feed)

-- a space or a line feed
abbrev pub space_or_feed : ℕ → Bool
space_or_feed c = (c == space_char) || (c == line_feed)

-- it holds a line feed, starts with no space and no line feed, and each character is shown or a line feed
abbrev pub literal_in_style : List ℕ → Bool
literal_in_style value = is_in line_feed value && not (first space_or_feed value) && list_all shown_or_feed value

-- ---- double quotes

-- the hexadecimal digit of a number below 16, in capital letters: 55 is 10 less than `A`
abbrev pub hex : ℕ → ℕ
hex d = if nat_lt d 10 then digit_zero + d else 55 + d

-- the letter of the short escape of a character that has one (5.7)
abbrev pub letter_escape : ℕ → ℕ
letter_escape c =
    if c == null then digit_zero else if c == bell then small_a else if c == backspace then small_b else if c == tab
    then small_t
    else if c == line_feed then small_n else if c == vertical_tab then small_v else if c == form_feed then small_f
    else if c == carriage_return then small_r else small_e

-- a character between double quotes: itself or an escape
abbrev pub quoted_char : ℕ → List ℕ
quoted_char c =
    if (c == double_quote) || (c == backslash) then backslash ∷ c ∷ []
    else if shown c then c ∷ []
    else if (c == null) || in_range bell carriage_return c || (c == escape_char) then backslash ∷ letter_escape c ∷ []
    else if nat_le c 0xff then codes "\\x" ++ hex (c / 16) ∷ hex (c % 16) ∷ []
    else codes "\\u" ++ hex (c / 4096) ∷ hex (c / 256 % 16) ∷ hex (c / 16 % 16) ∷ hex (c % 16) ∷ []

-- the characters between double quotes
abbrev pub quoted_chars : List ℕ → List ℕ
quoted_chars [] = []
quoted_chars (c ∷ cs) = quoted_char c ++ quoted_chars cs

-- the text in double quotes
abbrev pub in_double_quotes : List ℕ → List ℕ
in_double_quotes value = codes "\"" ++ quoted_chars value ++ codes "\""

-- ---- literals

-- how many line feeds end it
abbrev pub feeds_at_end : List ℕ → ℕ
feeds_at_end [] = 0
feeds_at_end (c ∷ cs) = if list_all (λ d. d == line_feed) (c ∷ cs) then length (c ∷ cs) else feeds_at_end cs

-- `|` with the chomping mark, from the number of line feeds at the end
abbrev pub literal_mark : ℕ → List ℕ
literal_mark zero = codes "|-"
literal_mark (suc zero) = codes "|"
literal_mark (suc (suc n)) = codes "|+"

-- the lines after j spaces each, an empty line after none; fresh: a line starts here
abbrev pub literal_lines : ℕ → Bool → List ℕ → List ℕ
literal_lines j fresh [] = if fresh then [] else codes "\n"
literal_lines j fresh (c ∷ cs) =
    if c == line_feed then line_feed ∷ literal_lines j true cs
    else (if fresh then spaces j else []) ++ c ∷ literal_lines j false cs

-- ---- scalars

-- a value after `- `, `: ` or at the top, with the end of its last line; the lines of a literal are after j spaces
abbrev pub scalar_lines : ℕ → List ℕ → List ℕ
scalar_lines j value =
    if plain_in_style value then value ++ codes "\n"
    else if literal_in_style value then literal_mark (feeds_at_end value) ++ codes "\n" ++ literal_lines j true value
    else in_double_quotes value ++ codes "\n"

-- a key as it is written
abbrev pub key_text : List ℕ → List ℕ
key_text key = if plain_in_style key then key else in_double_quotes key

-- the key has more than 1,000 characters as written, and so comes after `? `
abbrev pub long_key : List ℕ → Bool
long_key key = nat_lt 1000 (length (key_text key))

-- a key at the indentation i, through its `:`
abbrev pub key_lines : ℕ → List ℕ → List ℕ
key_lines i key = if long_key key then codes "? " ++ key_text key ++ codes "\n" ++ spaces i ++ codes ":"
    else key_text key ++ codes ":"

-- ---- trees

-- the lines of a tree at the indentation i, the first without its spaces
abbrev mutual
  -- the lines of a tree at the indentation i, the first without its spaces
  pub lines_at : Tree → ℕ → List ℕ
  lines_at (text value) i = scalar_lines (i + 2) value
  lines_at (sequence ts) i = elements_at ts i
  lines_at (mapping ms) i = members_at ms i

  -- the lines of elements
  pub elements_at : Elements → ℕ → List ℕ
  elements_at no_element i = codes "[]\n"
  elements_at (element t ts) i = codes "- " ++ lines_after_dash t i ++ elements_after ts i

  -- the lines of the elements after the first
  pub elements_after : Elements → ℕ → List ℕ
  elements_after no_element i = []
  elements_after (element t ts) i = spaces i ++ codes "- " ++ lines_after_dash t i ++ elements_after ts i

  -- the lines of an element after its `- `; those of a collection are two deeper than in lines_at
  pub lines_after_dash : Tree → ℕ → List ℕ
  lines_after_dash (text value) i = scalar_lines (i + 2) value
  lines_after_dash (sequence ts) i = elements_at ts (i + 2)
  lines_after_dash (mapping ms) i = members_at ms (i + 2)

  -- the lines of members
  pub members_at : Members → ℕ → List ℕ
  members_at no_member i = codes "{}\n"
  members_at (member key t ms) i = key_lines i key ++ value_at t i ++ members_after ms i

  -- the lines of the members after the first
  pub members_after : Members → ℕ → List ℕ
  members_after no_member i = []
  members_after (member key t ms) i = spaces i ++ key_lines i key ++ value_at t i ++ members_after ms i

  -- a value after the `:` of its key
  pub value_at : Tree → ℕ → List ℕ
  value_at (text value) i = codes " " ++ scalar_lines (i + 2) value
  value_at (sequence no_element) i = codes " []\n"
  value_at (sequence (element t ts)) i = codes "\n" ++ spaces (i + 2) ++ elements_at (element t ts) (i + 2)
  value_at (mapping no_member) i = codes " {}\n"
  value_at (mapping (member key t ms)) i = codes "\n" ++ spaces (i + 2) ++ members_at (member key t ms) (i + 2)

-- the text of a tree in the one style
abbrev pub style_text : Tree → List ℕ
style_text t = lines_at t 0
