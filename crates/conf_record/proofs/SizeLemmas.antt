-- Bytes in the one style: of a scalar by those of its text, and of a tree as a value and as an element.
use Rattle.std.proofs.Common.{◌≡◌, ℕ, zero, suc, ◌+◌, ◌*◌, ◌/◌, ◌%◌, ◌<◌, ◌≤◌, Bool, true, false, ◌||◌, ◌==◌, nat_le, nat_lt, if◌then◌else◌}
use Rattle.std.proofs.{Common.{List, [], ◌∷◌, ◌++◌, codes, refl, arith}, lemmas.Str.len_utf8_ascii}
use Rattle.conf_record.proofs.Prelude.{nat_tests, len_utf8_bounds, len_utf8, in_range, byte_len, spaces, Tree, text, sequence, mapping}
use Rattle.conf_record.proofs.Prelude.{shown, plain_in_style, literal_in_style, hex, letter_escape, quoted_char, quoted_chars}
use Rattle.conf_record.proofs.Prelude.{in_double_quotes, literal_mark, literal_lines, feeds_at_end, scalar_lines, key_text, key_lines}
use Rattle.{conf_record.proofs.Prelude.{lines_after_dash, value_at, style_text, byte_len-append}, yaml_writer.proofs.SizeLaws.three}
use Rattle.yaml_writer.proofs.{SizeLaws.{elements_law, members_law}, SizeBounds.value_small, SizeSums.{key_bytes, value_longer}}

-- how many bytes a tree has
abbrev pub size : Tree → ℕ
size t = byte_len (style_text t)

-- ---- scalars: at least as many bytes as the text, and at most four times as many and five more

no_byte : (c : ℕ) → nat_le c 0xff ≡ false → 2 ≤ len_utf8 c
no_byte c e = grind (arith, nat_tests)

hex_small : (d : ℕ) → d < 16 → hex d < 128
hex_small d small = grind (arith, nat_tests)

hex_byte : (d : ℕ) → d < 16 → len_utf8 (hex d) ≡ 1
hex_byte d small = len_utf8_ascii (hex d) (hex_small d small)

first_byte : (c : ℕ) → len_utf8 (hex (c / 4096)) ≤ len_utf8 c
first_byte c = by (nat_lt c 65536) refl
  where
    by : (b : Bool) → nat_lt c 65536 ≡ b → len_utf8 (hex (c / 4096)) ≤ len_utf8 c
    by true few =
        let small : c < 65536 = grind (arith, nat_tests) in
        let one = hex_byte (c / 4096) (omega arith) in
        let own = len_utf8_bounds c in
        omega arith
    by false many =
        let own : len_utf8 c ≡ 4 = grind (arith, nat_tests) in
        let most = len_utf8_bounds (hex (c / 4096)) in
        omega arith

letter_byte : (c : ℕ) → letter_escape c < 128
letter_byte c = grind (arith, nat_tests)

named_byte : (c : ℕ) → ((c == 0) || in_range 7 13 c || (c == 27)) ≡ true → len_utf8 c ≡ 1
named_byte c e = grind (arith, nat_tests)

record Escapes (bytes spelled : ℕ) : Type 0 where
  least : bytes ≤ spelled
  most : spelled ≤ 4 * bytes

-- a character in double quotes
char_bytes : (c : ℕ) → Escapes (len_utf8 c) (byte_len (quoted_char c))
char_bytes c =
    by ((c == 34) || (c == 92)) (shown c) ((c == 0) || in_range 7 13 c || (c == 27)) refl (nat_le c 0xff) refl
  where
    by : (sign itself named : Bool) → ((c == 0) || in_range 7 13 c || (c == 27)) ≡ named → (short : Bool) → nat_le c 0xff ≡ short
        → Escapes (len_utf8 c) (byte_len (if sign then 92 ∷ c ∷ [] else if itself then c ∷ [] else if named then 92 ∷ letter_escape c ∷ []
        else if short then codes "\\x" ++ hex (c / 16) ∷ hex (c % 16) ∷ []
        else codes "\\u" ++ hex (c / 4096) ∷ hex (c / 256 % 16) ∷ hex (c / 16 % 16) ∷ hex (c % 16) ∷ []))
    by true itself named is short e = let own = len_utf8_bounds c in record { least = omega (arith, own); most = omega (arith, own) }
    by false true named is short e = let own = len_utf8_bounds c in record { least = omega (arith, own); most = omega (arith, own) }
    by false false true is short e =
        let own = len_utf8_bounds c in
        let letter = len_utf8_ascii (letter_escape c) (letter_byte c) in
        record { least = omega (arith, letter, named_byte c is); most = omega (arith, letter, own) }
    by false false false is true e =
        let own = len_utf8_bounds c in
        let small : c ≤ 255 = grind (arith, nat_tests) in
        let a = hex_byte (c / 16) (omega arith) in
        let b = hex_byte (c % 16) (omega arith) in
        record { least = omega (arith, own, a, b); most = omega (arith, own, a, b) }
    by false false false is false e =
        let own = len_utf8_bounds c in
        let a = first_byte c in
        let first = len_utf8_bounds (hex (c / 4096)) in
        let b = hex_byte (c / 256 % 16) (omega arith) in
        let d = hex_byte (c / 16 % 16) (omega arith) in
        let f = hex_byte (c % 16) (omega arith) in
        record { least = omega (arith, own, first, b, d, f); most = omega (arith, no_byte c e, a, b, d, f) }

quoted_bytes : (cs : List ℕ) → Escapes (byte_len cs) (byte_len (quoted_chars cs))
quoted_bytes [] = record { least = omega arith; most = omega arith }
quoted_bytes (c ∷ cs) =
    let one = char_bytes c in
    let rest = quoted_bytes cs in
    let both = byte_len-append (quoted_char c) (quoted_chars cs) in
    record { least = omega (arith, both, one.least, rest.least); most = omega (arith, both, one.most, rest.most) }

quoted_size : (value : List ℕ) → byte_len (in_double_quotes value) ≡ 2 + byte_len (quoted_chars value)
quoted_size value = omega (arith, three (codes "\"") (quoted_chars value) (codes "\""))

literal_most : (cs : List ℕ)
    → (byte_len (literal_lines 2 true cs) ≤ 1 + 3 * byte_len cs) × (byte_len (literal_lines 2 false cs) ≤ 1 + 3 * byte_len cs)
literal_most [] = (omega arith, omega arith)
literal_most (c ∷ cs) = by (c == 10) (literal_most cs)
  where
    by : (b : Bool) → (byte_len (literal_lines 2 true cs) ≤ 1 + 3 * byte_len cs)
        × (byte_len (literal_lines 2 false cs) ≤ 1 + 3 * byte_len cs)
        → (byte_len (if b then 10 ∷ literal_lines 2 true cs else spaces 2 ++ c ∷ literal_lines 2 false cs) ≤ 1 + 3 * byte_len (c ∷ cs))
        × (byte_len (if b then 10 ∷ literal_lines 2 true cs else c ∷ literal_lines 2 false cs) ≤ 1 + 3 * byte_len (c ∷ cs))
    by true rest = let some = len_utf8_bounds c in let a = rest.0 in let b = rest.1 in (omega arith, omega arith)
    by false rest = let some = len_utf8_bounds c in let a = rest.0 in let b = rest.1 in (omega arith, omega arith)

mark_most : (n : ℕ) → byte_len (literal_mark n) ≤ 2
mark_most zero = omega arith
mark_most (suc zero) = omega arith
mark_most (suc (suc n)) = omega arith

-- the lines of a scalar are at most four times as long as it is, and 5 bytes
pub scalar_most : (value : List ℕ) → byte_len (scalar_lines 2 value) ≤ 4 * byte_len value + 5
scalar_most value = by (plain_in_style value) (literal_in_style value)
  where
    by : (plain literal : Bool)
        → byte_len (if plain then value ++ codes "\n" else if literal
        then literal_mark (feeds_at_end value) ++ codes "\n" ++ literal_lines 2 true value
        else in_double_quotes value ++ codes "\n")
        ≤ 4 * byte_len value + 5
    by true literal = omega (arith, byte_len-append value (codes "\n"))
    by false true =
        let whole = three (literal_mark (feeds_at_end value)) (codes "\n") (literal_lines 2 true value) in
        omega (arith, mark_most (feeds_at_end value), (literal_most value).0, whole)
    by false false =
        let spelled = (quoted_bytes value).most in
        omega (arith, spelled, quoted_size value, byte_len-append (in_double_quotes value) (codes "\n"))

key_least : (key : List ℕ) → byte_len key ≤ byte_len (key_text key)
key_least key = by (plain_in_style key)
  where
    by : (plain : Bool) → byte_len key ≤ byte_len (if plain then key else in_double_quotes key)
    by true = omega arith
    by false = let spelled = (quoted_bytes key).least in omega (arith, spelled, quoted_size key)

-- ---- keys and trees

-- the line of a key is longer than the key
pub key_line_least : (key : List ℕ) → 1 + byte_len key ≤ byte_len (key_lines 0 key)
key_line_least key = omega (arith, key_least key, key_bytes key)

-- an element is at least as long as its tree's own text
pub element_least : (t : Tree) → size t ≤ byte_len (lines_after_dash t 0)
element_least (text value) = omega arith
element_least (sequence ts) = omega (arith, elements_law ts 2)
element_least (mapping ms) = omega (arith, members_law ms 2)

pub record AsValue (alone valued : ℕ) : Type 0 where
  pub least : alone ≤ valued
  pub most : valued ≤ 3 * alone + 3

-- a value is at least as long as its tree's own text, and at most three times as long and 3 bytes
pub value_size : (t : Tree) → AsValue (size t) (byte_len (value_at t 0))
value_size t = record { least = omega (arith, element_least t, value_longer t); most = omega (arith, value_small t) }
