-- The length of a base text: what is around the configurations, and each of them.
use Rattle.std.proofs.Common.{◌≡◌, ℕ, ◌+◌, ◌<◌, ◌≤◌, ◌^◌, Bool, true, false, ◌==◌, if◌then◌else◌, List, [], ◌∷◌, ◌++◌, length, codes}
use Rattle.std.{proofs.{Common.{decimal, refl, ap, ap₂, ◌∙◌, arith}, lemmas.Str.Parse.tells_digits}, specs.Char.len_utf8}
use Rattle.conf_state.proofs.Prelude.{nat_tests, decimal_is_IsNumeral_wide, AllDigits, byte_len, spaces, Tree, mapping, letter}
use Rattle.conf_state.proofs.Prelude.{plain_in_style, literal_in_style, quoted_char, quoted_chars, in_double_quotes, scalar_lines}
use Rattle.conf_state.proofs.Prelude.{literal_mark, literal_lines, feeds_at_end, key_lines, value_at, members_after, style_text}
use Rattle.conf_state.{proofs.Prelude.byte_len-append, specs.{States.{Entry, Contents, base_limit, count_limit}, BaseTexts.members}}
use Rattle.conf_state.specs.BaseTexts.{base_tree, base_text, base_length, entry_lines, entry_length, entries_length, framed_length}
use Rattle.yaml_chars.specs.Classes.{in_range, is_in}

-- ---- in double quotes each digit means itself

digit : (c : ℕ) (cs : List ℕ) → AllDigits 10 (c ∷ cs) → in_range 48 57 c ≡ true
digit c cs all = let here = (tells_digits.parts c cs all).0 in grind (arith, nat_tests, here)

no_letter : (c : ℕ) → in_range 48 57 c ≡ true → letter c ≡ false
no_letter c e = grind (arith, nat_tests)

no_feed : (c : ℕ) → in_range 48 57 c ≡ true → (10 == c) ≡ false
no_feed c e = grind (arith, nat_tests)

for_itself : (c : ℕ) → in_range 48 57 c ≡ true → quoted_char c ≡ c ∷ []
for_itself c e = grind (arith, nat_tests)

one_byte : (c : ℕ) → in_range 48 57 c ≡ true → len_utf8 c ≡ 1
one_byte c e = grind (arith, nat_tests)

digits_not_plain : (ds : List ℕ) → AllDigits 10 ds → plain_in_style ds ≡ false
digits_not_plain [] all = refl
digits_not_plain (c ∷ cs) all = rw (no_letter c (digit c cs all)) refl

digits_no_feed : (ds : List ℕ) → AllDigits 10 ds → is_in 10 ds ≡ false
digits_no_feed [] all = refl
digits_no_feed (c ∷ cs) all = rw (no_feed c (digit c cs all)) (digits_no_feed cs (tells_digits.parts c cs all).1)

digits_quoted : (ds : List ℕ) → AllDigits 10 ds → quoted_chars ds ≡ ds
digits_quoted [] all = refl
digits_quoted (c ∷ cs) all =
    ap₂ (λ a b. a ++ b) (for_itself c (digit c cs all)) (digits_quoted cs (tells_digits.parts c cs all).1)

digits_bytes : (ds : List ℕ) → AllDigits 10 ds → byte_len ds ≡ length ds
digits_bytes [] all = refl
digits_bytes (c ∷ cs) all =
    let one = one_byte c (digit c cs all) in
    let after = digits_bytes cs (tells_digits.parts c cs all).1 in
    omega (arith, one, after)

digits_not_literal : (ds : List ℕ) → AllDigits 10 ds → literal_in_style ds ≡ false
digits_not_literal ds all = rw (digits_no_feed ds all) refl

by_tests : (p l : Bool) (plain literal double : List ℕ) → p ≡ false → l ≡ false
    → (if p then plain else if l then literal else double) ≡ double
by_tests p l plain literal double not_plain not_literal = rw (not_plain, not_literal) refl

-- the line of a count: its digits in quotes
pub count_line : (ds : List ℕ) → AllDigits 10 ds → scalar_lines 2 ds ≡ codes "\"" ++ ds ++ codes "\"" ++ codes "\n"
count_line ds all =
    by_tests (plain_in_style ds) (literal_in_style ds) (ds ++ codes "\n")
    (literal_mark (feeds_at_end ds) ++ codes "\n" ++ literal_lines 2 true ds) (in_double_quotes ds ++ codes "\n")
    (digits_not_plain ds all) (digits_not_literal ds all)
    ∙ ap (λ cs. codes "\"" ++ cs ++ codes "\"" ++ codes "\n") (digits_quoted ds all)

-- that line has 3 bytes more than digits
pub count_bytes : (ds : List ℕ) → AllDigits 10 ds → byte_len (scalar_lines 2 ds) ≡ 3 + length ds
count_bytes ds all =
    let line = ap byte_len (count_line ds all) in
    omega (
      arith,
      line,
      digits_bytes ds all,
      byte_len-append (codes "\"" ++ ds ++ codes "\"") (codes "\n"),
      byte_len-append (codes "\"" ++ ds) (codes "\""),
      byte_len-append (codes "\"") ds,
    )

-- ---- the configurations

entries_after : (es : List Entry) → byte_len (members_after (members es) 2) ≡ entries_length es
unfolding entry_length
entries_after [] = refl
entries_after (e ∷ es) =
    byte_len-append (entry_lines e.0 e.1) (members_after (members es) 2) ∙ ap (λ n. byte_len (entry_lines e.0 e.1) + n) (entries_after es)

-- no configuration has no bytes
some_bytes : (name : List ℕ) (t : Tree) → 2 ≤ entry_length name t
unfolding entry_length
some_bytes name t =
    omega (arith, byte_len-append (spaces 2 ++ key_lines 2 name) (value_at t 2), byte_len-append (spaces 2) (key_lines 2 name))

-- after `configs:`
configs_bytes : (es : List Entry) → byte_len (value_at (mapping (members es)) 0)
    ≡ (if entries_length es == 0 then 4 else 1 + entries_length es)
configs_bytes [] = refl
configs_bytes (e ∷ es) =
    let first = byte_len-append (codes "\n") (entry_lines e.0 e.1 ++ members_after (members es) 2) in
    let some = some_bytes e.0 e.1 in
    let all = entries_after (e ∷ es) in
    grind (arith, nat_tests, first, some, all)

-- ---- the whole

-- the lines of the count and of the configurations
around : (n : ℕ) (es : List Entry) → AllDigits 10 (decimal n)
    → byte_len (style_text (base_tree (record { configs = es; count = n })))
    ≡ 34 + length (decimal n) + (if entries_length es == 0 then 4 else 1 + entries_length es)
around n es all =
    let configs = value_at (mapping (members es)) 0 in
    omega (
      arith,
      count_bytes (decimal n) all,
      configs_bytes es,
      byte_len-append (scalar_lines 2 (decimal n)) (spaces 0 ++ key_lines 0 (codes "configs") ++ configs ++ []),
      byte_len-append configs [],
    )

-- the length of a base text, from its count and the bytes of its configurations
pub base_length-framed : (n : ℕ) (es : List Entry) → n < 10 ^ 64
    → base_length (record { configs = es; count = n }) ≡ framed_length n (entries_length es)
unfolding base_length base_text
base_length-framed n es small =
    let s : Contents = record { configs = es; count = n } in
    omega (
      arith,
      around n es (decimal_is_IsNumeral_wide n small).0.1,
      byte_len-append (codes "---\n" ++ style_text (base_tree s)) (codes "...\n"),
      byte_len-append (codes "---\n") (style_text (base_tree s)),
    )

-- where the base text is short, so are the configurations
pub entries_length-short : (n : ℕ) (es : List Entry) → n ≤ count_limit
    → base_length (record { configs = es; count = n }) ≤ base_limit → entries_length es ≤ base_limit
entries_length-short n es numbered short =
    let whole = base_length-framed n es (omega arith) in
    grind (arith, nat_tests, whole)
