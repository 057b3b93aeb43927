-- A part has no more indented lines than bytes, so lengths at small indentations are small where the length in the one
-- style is.
use Rattle.std.proofs.Common.{◌≡◌, ℕ, ◌+◌, ◌*◌, ◌/◌, ◌%◌, ◌-◌, ◌≤◌, ◌==◌, ◌||◌, nat_le, nat_lt, Bool, true, false, length, length-append}
use Rattle.std.proofs.Common.{if◌then◌else◌, List, [], ◌∷◌, ◌++◌, codes, arith}
use Rattle.yaml_writer.proofs.Prelude.{nat_tests, len_utf8_bounds, in_range, null, bell, line_feed, carriage_return, escape_char}
use Rattle.yaml_writer.proofs.Prelude.{double_quote, backslash, byte_len, spaces, Tree, text, sequence, mapping, Elements, no_element}
use Rattle.yaml_writer.proofs.Prelude.{element, Members, no_member, member, hex, letter_escape, quoted_char, quoted_chars, plain_in_style}
use Rattle.yaml_writer.proofs.Prelude.{literal_in_style, in_double_quotes, literal_mark, literal_lines, feeds_at_end, scalar_lines}
use Rattle.yaml_writer.proofs.Prelude.{key_text, long_key, key_lines, elements_at, elements_after, lines_after_dash, members_at}
use Rattle.yaml_writer.proofs.{Prelude.{members_after, value_at, style_text}, SizeLaws.{three, four, scalar_law, elements_law, members_law}}
use Rattle.yaml_writer.specs.{BudgetLaws.byte_len-append, Sizes.{indented_literal_lines, indented_scalar_lines, indented_key_lines}}
use Rattle.yaml_writer.specs.Sizes.{indented, elements_indented, elements_after_indented, members_indented, members_after_indented}
use Rattle.{yaml_writer.specs.Sizes.value_indented, yaml_grammar.specs.Style.shown as is_shown}

literal_bound : (fresh : Bool) (cs : List ℕ) → indented_literal_lines fresh cs ≤ byte_len (literal_lines 0 fresh cs)
literal_bound fresh [] = omega arith
literal_bound fresh (c ∷ cs) = by (c == line_feed) fresh (literal_bound true cs) (literal_bound false cs)
  where
    by : (feed starts : Bool) → indented_literal_lines true cs ≤ byte_len (literal_lines 0 true cs)
        → indented_literal_lines false cs ≤ byte_len (literal_lines 0 false cs)
        → (if feed then indented_literal_lines true cs else (if starts then 1 else 0) + indented_literal_lines false cs)
        ≤ byte_len (if feed then line_feed ∷ literal_lines 0 true cs
        else (if starts then spaces 0 else []) ++ c ∷ literal_lines 0 false cs)
    by true starts on off = omega (arith, on)
    by false true on off = omega (arith, off, len_utf8_bounds c)
    by false false on off = omega (arith, off)

scalar_bound : (value : List ℕ) → indented_scalar_lines value ≤ byte_len (scalar_lines 0 value)
scalar_bound value = by (plain_in_style value) (literal_in_style value) (literal_mark (feeds_at_end value))
  where
    by : (plain literal : Bool) (mark : List ℕ)
        → (if plain then 0 else if literal then indented_literal_lines true value else 0)
        ≤ byte_len (if plain then value ++ codes "\n" else if literal
        then mark ++ codes "\n" ++ literal_lines 0 true value else in_double_quotes value ++ codes "\n")
    by true literal mark = omega arith
    by false true mark = omega (arith, literal_bound true value, three mark (codes "\n") (literal_lines 0 true value))
    by false false mark = omega arith

key_bound : (key : List ℕ) → 1 + indented_key_lines key ≤ byte_len (key_lines 0 key)
key_bound key = by (long_key key) (key_text key)
  where
    by : (long : Bool) (shown : List ℕ) → 1 + (if long then 1 else 0)
        ≤ byte_len (if long then codes "? " ++ shown ++ codes "\n" ++ spaces 0 ++ codes ":" else shown ++ codes ":")
    by true shown =
        omega (
          arith,
          byte_len-append (codes "? " ++ shown ++ codes "\n" ++ spaces 0) (codes ":"),
          four (codes "? ") shown (codes "\n") (spaces 0),
        )
    by false shown = omega (arith, byte_len-append shown (codes ":"))

-- a key has at most 24 bytes for each byte of its text, and six more
quoted_char_short : (c : ℕ) → length (quoted_char c) ≤ 6
quoted_char_short c =
    by ((c == double_quote) || (c == backslash)) (is_shown c)
    ((c == null) || in_range bell carriage_return c || (c == escape_char)) (nat_le c 0xff)
  where
    by : (sign itself named short : Bool) → length (if sign then backslash ∷ c ∷ []
        else if itself then c ∷ []
        else if named then backslash ∷ letter_escape c ∷ []
        else if short then codes "\\x" ++ hex (c / 16) ∷ hex (c % 16) ∷ []
        else codes "\\u" ++ hex (c / 4096) ∷ hex (c / 256 % 16) ∷ hex (c / 16 % 16) ∷ hex (c % 16) ∷ []) ≤ 6
    by true itself named short = omega arith
    by false true named short = omega arith
    by false false true short = omega arith
    by false false false true = omega arith
    by false false false false = omega arith

quoted_chars_short : (cs : List ℕ) → length (quoted_chars cs) ≤ 6 * length cs
quoted_chars_short [] = omega arith
quoted_chars_short (c ∷ cs) =
    omega (arith, quoted_chars_short cs, quoted_char_short c, length-append (quoted_char c) (quoted_chars cs))

-- a key of at most 166 characters is no long one
pub short_key : (key : List ℕ) → length key ≤ 166 → false ≡ long_key key
short_key key short = by (length (key_text key)) (text_short (plain_in_style key))
  where
    text_short : (plain : Bool) → length (if plain then key else in_double_quotes key) ≤ 1000
    text_short true = omega arith
    text_short false =
        omega (
          arith,
          quoted_chars_short key,
          length-append (codes "\"" ++ quoted_chars key) (codes "\""),
          length-append (codes "\"") (quoted_chars key),
        )

    by : (n : ℕ) → n ≤ 1000 → false ≡ nat_lt 1000 n
    by n h = grind (arith, nat_tests)

four_each : (cs : List ℕ) → byte_len cs ≤ 4 * length cs
four_each [] = omega arith
four_each (c ∷ cs) = omega (arith, four_each cs, len_utf8_bounds c)

quoted_chars_bound : (cs : List ℕ) → byte_len (quoted_chars cs) ≤ 24 * byte_len cs
quoted_chars_bound [] = omega arith
quoted_chars_bound (c ∷ cs) =
    omega (
      arith,
      quoted_chars_bound cs,
      four_each (quoted_char c),
      quoted_char_short c,
      len_utf8_bounds c,
      byte_len-append (quoted_char c) (quoted_chars cs),
    )

-- the text of a key is at most 24 times as long as the key, and 6 bytes
pub key_bytes_bound : (key : List ℕ) → byte_len (key_lines 0 key) ≤ 24 * byte_len key + 6
key_bytes_bound key = by (long_key key) (key_text key) (text_bound (plain_in_style key))
  where
    text_bound : (plain : Bool) → byte_len (if plain then key else in_double_quotes key) ≤ 24 * byte_len key + 2
    text_bound true = omega arith
    text_bound false = omega (arith, quoted_chars_bound key, three (codes "\"") (quoted_chars key) (codes "\""))

    by : (long : Bool) (shown : List ℕ) → byte_len shown ≤ 24 * byte_len key + 2
        → byte_len (if long then codes "? " ++ shown ++ codes "\n" ++ spaces 0 ++ codes ":" else shown ++ codes ":") ≤ 24 * byte_len key + 6
    by true shown h =
        omega (
          arith,
          h,
          byte_len-append (codes "? " ++ shown ++ codes "\n" ++ spaces 0) (codes ":"),
          four (codes "? ") shown (codes "\n") (spaces 0),
        )
    by false shown h = omega (arith, h, byte_len-append shown (codes ":"))

-- the lines of a collection after its key
on_own_lines : (lines : ℕ → List ℕ) (n : ℕ) → n ≤ byte_len (lines 0)
    → ((i : ℕ) → byte_len (lines i) ≡ byte_len (lines 0) + i * n)
    → (1 + n ≤ byte_len (codes "\n" ++ spaces 2 ++ lines 2))
    × (byte_len (codes "\n" ++ spaces 2 ++ lines 2) ≤ 3 + 3 * byte_len (lines 0))
on_own_lines lines n bound law =
    let whole = three (codes "\n") (spaces 2) (lines 2) in
    (omega (arith, bound, law 2, whole), omega (arith, bound, law 2, whole))

mutual
  -- an element has a byte at least for each line that is indented
  pub element_bound : (t : Tree) → indented t ≤ byte_len (lines_after_dash t 0)
  element_bound (text value) = omega (arith, scalar_bound value, scalar_law 2 value)
  element_bound (sequence ts) = omega (arith, elements_bound ts, elements_law ts 2)
  element_bound (mapping ms) = omega (arith, members_bound ms, members_law ms 2)

  -- so do the elements of a sequence
  pub elements_bound : (ts : Elements) → elements_indented ts ≤ byte_len (elements_at ts 0)
  elements_bound no_element = omega arith
  elements_bound (element t ts) =
      omega (arith, element_bound t, elements_after_bound ts, three (codes "- ") (lines_after_dash t 0) (elements_after ts 0))

  -- so do the elements after the first
  pub elements_after_bound : (ts : Elements) → elements_after_indented ts ≤ byte_len (elements_after ts 0)
  elements_after_bound no_element = omega arith
  elements_after_bound (element t ts) =
      omega (arith, element_bound t, elements_after_bound ts, three (codes "- ") (lines_after_dash t 0) (elements_after ts 0))

  -- so do the members of a mapping
  pub members_bound : (ms : Members) → members_indented ms ≤ byte_len (members_at ms 0)
  members_bound no_member = omega arith
  members_bound (member key t ms) =
      omega (
        arith,
        key_bound key,
        value_bound t,
        members_after_bound ms,
        three (key_lines 0 key) (value_at t 0) (members_after ms 0),
      )

  -- so do the members after the first
  pub members_after_bound : (ms : Members) → members_after_indented ms ≤ byte_len (members_after ms 0)
  members_after_bound no_member = omega arith
  members_after_bound (member key t ms) =
      omega (
        arith,
        key_bound key,
        value_bound t,
        members_after_bound ms,
        three (key_lines 0 key) (value_at t 0) (members_after ms 0),
      )

  -- so does a value
  pub value_bound : (t : Tree) → value_indented t ≤ byte_len (value_at t 0)
  value_bound (text value) = omega (arith, scalar_bound value, scalar_law 2 value, byte_len-append (codes " ") (scalar_lines 2 value))
  value_bound (sequence no_element) = omega arith
  value_bound (sequence (element t ts)) =
      (on_own_lines (elements_at (element t ts)) (elements_indented (element t ts))
      (elements_bound (element t ts)) (elements_law (element t ts))).0
  value_bound (mapping no_member) = omega arith
  value_bound (mapping (member key t ms)) =
      (on_own_lines (members_at (member key t ms)) (members_indented (member key t ms))
      (members_bound (member key t ms)) (members_law (member key t ms))).0

-- ---- by the length of the whole

-- as an element, a tree is at most three times as long as alone
pub element_small : (t : Tree) → byte_len (lines_after_dash t 0) ≤ 3 * byte_len (style_text t)
element_small (text value) = omega arith
element_small (sequence ts) = omega (arith, elements_bound ts, elements_law ts 2)
element_small (mapping ms) = omega (arith, members_bound ms, members_law ms 2)

-- as a value, a tree is at most three times as long as alone, and 3 bytes
pub value_small : (t : Tree) → byte_len (value_at t 0) ≤ 3 + 3 * byte_len (style_text t)
value_small (text value) = omega (arith, byte_len-append (codes " ") (scalar_lines 2 value))
value_small (sequence no_element) = omega arith
value_small (sequence (element t ts)) =
    (on_own_lines (elements_at (element t ts)) (elements_indented (element t ts))
    (elements_bound (element t ts)) (elements_law (element t ts))).1
value_small (mapping no_member) = omega arith
value_small (mapping (member key t ms)) =
    (on_own_lines (members_at (member key t ms)) (members_indented (member key t ms))
    (members_bound (member key t ms)) (members_law (member key t ms))).1
