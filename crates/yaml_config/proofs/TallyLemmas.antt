-- Sizes that are counted up to the greatest number.
use Rattle.std.proofs.Common.{◌≡◌, ℕ, ◌+◌, ◌*◌, ◌-◌, ◌<◌, ◌≤◌, ◌==◌, min, Bool, true, false, List, [], ◌∷◌, ◌++◌, codes, zero, suc}
use Rattle.std.proofs.{Common.{if◌then◌else◌, refl, sym, ap, subst, ◌∙◌, inl, inr, arith}, lemmas.Bool.cases_lt}
use Rattle.yaml_config.proofs.Prelude.{byte_len, spaces, Size, Tree, text, sequence, mapping, element_size, style_text}
use Rattle.yaml_config.{proofs.Prelude.{lines_after_dash, key_lines, elements_law, members_law, three}, specs.Tallies.{most, IsTally}}
use Rattle.yaml_grammar.specs.Style.{plain_in_style, literal_in_style, literal_lines, literal_mark, feeds_at_end, in_double_quotes}
use Rattle.{yaml_grammar.specs.Style.{key_text, scalar_lines}, yaml_chars.specs.Signs.line_feed, yaml_writer.proofs.SizeBounds.short_key}
use Rattle.yaml_writer.proofs.{SizeBounds.key_bytes_bound, SizeSums.key_bytes, LengthLemmas.length-byte_len, Prelude.len_utf8_bounds}
use Rattle.yaml_writer.specs.{BudgetLaws.byte_len-append, Sizes.{indented_key_lines, indented_scalar_lines}}

-- a number of bytes is known, or too large
by_cases : {P : Type 0} (b : ℕ) → (b < most → P) → (most ≤ b → P) → P
by_cases b known many = elim (cases_lt b most) [ inl h ↦ known h | inr h ↦ many h ]

-- rows that were counted, and those that are left, are all rows
pub record AreRows (bytes lines more_bytes more_lines all_bytes all_lines : ℕ) : Type 0 where
  pub sum_bytes : bytes < most → bytes + more_bytes ≡ all_bytes
  pub sum_lines : bytes < most → lines + more_lines ≡ all_lines
  pub over : most ≤ bytes → 67108864 < all_bytes
  pub few : bytes < most → lines ≤ bytes

-- a part more of a row
pub rows_more : {b l mb ml ab al : ℕ} (b' l' mb' ml' pb pl tb tl s : ℕ) → AreRows b l mb ml ab al → mb ≡ pb + mb' → ml ≡ pl + ml'
    → (tb < most → tb ≡ pb) → (tb < most → tl ≡ pl) → (most ≤ tb → 67108864 < s) → s ≤ pb → pl ≤ pb
    → b' ≡ min (b + tb) most → l' ≡ min (l + tl) most → AreRows b' l' mb' ml' ab al
rows_more {b} {l} {mb} {ml} {ab} {al} b' l' mb' ml' pb pl tb tl s rows eb el same_bytes same_lines over part few bytes lines = record {
  sum_bytes = λ h. omega (arith, h, rows.sum_bytes, eb, same_bytes, bytes);
  sum_lines = λ h. omega (arith, h, rows.sum_lines, rows.few, el, same_bytes, same_lines, few, bytes, lines);
  over = λ h. by_cases b (λ counted. by_cases tb
      (λ known. omega (arith, h, rows.sum_bytes counted, eb, same_bytes known, bytes))
      (λ many. omega (arith, rows.sum_bytes counted, eb, over many, part)))
      rows.over;
  few = λ h. omega (arith, h, rows.few, same_bytes, same_lines, few, bytes, lines);
}

-- all rows, two spaces deeper after the first
pub rows_done : {b l ab al : ℕ} (b' l' own : ℕ) (size : Size) → AreRows b l 0 0 ab al → al ≡ 1 + own → al ≤ ab
    → size.bytes ≡ ab + 2 * own → size.lines ≡ own → b' ≡ min (b + 2 * (l - 1)) most → l' ≡ l - 1 → IsTally b' l' ab size
rows_done {b} {l} {ab} {al} b' l' own size rows first within is_bytes is_lines bytes lines = record {
  same_bytes = λ h. omega (arith, h, rows.sum_bytes, rows.sum_lines, first, is_bytes, bytes);
  same_lines = λ h. omega (arith, h, rows.sum_bytes, rows.sum_lines, first, is_lines, bytes, lines);
  over = λ h. by_cases b (λ counted. omega (arith, h, rows.sum_bytes counted, rows.sum_lines counted, first, within, bytes))
      rows.over;
}

-- a tally with a part more
pub tally_more : {b l whole : ℕ} (b' l' tb tl : ℕ) (element value : Size) → IsTally b l whole element → value.bytes ≡ tb + element.bytes
    → value.lines ≡ tl + element.lines → element.lines ≤ element.bytes → tl ≤ tb → tb ≤ 3 → element.bytes ≤ 3 * whole
    → b' ≡ min (b + tb) most → l' ≡ min (l + tl) most → IsTally b' l' whole value
tally_more {b} {l} {whole} b' l' tb tl element value tally eb el within few small long bytes lines = record {
  same_bytes = λ h. omega (arith, h, tally.same_bytes, eb, bytes);
  same_lines = λ h. omega (arith, h, tally.same_bytes, tally.same_lines, eb, el, within, few, bytes, lines);
  over = λ h. by_cases b (λ counted. omega (arith, h, tally.same_bytes counted, small, long, bytes)) tally.over;
}

-- a tree is no longer than as an element
pub style_within : (t : Tree) → byte_len (style_text t) ≤ byte_len (lines_after_dash t 0)
style_within (text value) = omega arith
style_within (sequence ts) = omega (arith, elements_law ts 2)
style_within (mapping ms) = omega (arith, members_law ms 2)

-- ---- texts and keys

-- a text on one line
pub text_on_line : (t : Tree) (value shown : List ℕ) (b : ℕ) → t ≡ text value → shown ++ codes "\n" ≡ scalar_lines 2 value
    → indented_scalar_lines value ≡ 0 → b ≡ 1 + byte_len shown → b < most → IsTally b 0 (byte_len (style_text t)) (element_size t)
text_on_line t value shown b is line flat bytes small =
    let whole : byte_len (scalar_lines 2 value) ≡ byte_len shown + byte_len (codes "\n") =
    ap byte_len (sym line) ∙ byte_len-append shown (codes "\n") in
    subst (λ u. IsTally b 0 (byte_len (style_text u)) (element_size u)) (sym is) (record {
      same_bytes = λ h. omega (arith, bytes, whole);
      same_lines = λ h. sym flat;
      over = λ h. absurd (omega (arith, small, h));
    })

-- a plain key
pub key_plain : (key : List ℕ) → plain_in_style key ≡ true → byte_len key ≤ 128 → byte_len (key_lines 0 key) ≡ 1 + byte_len key
key_plain key plain short =
    let no_long = short_key key (omega (arith, short, length-byte_len key)) in
    let no_lines : indented_key_lines key ≡ 0 = rw (sym no_long) refl in
    let shown : byte_len (key_text key) ≡ byte_len key = rw plain refl in
    omega (arith, key_bytes key, no_lines, shown)

pub key_plain_lines : (key : List ℕ) → byte_len key ≤ 128 → indented_key_lines key ≡ 0
key_plain_lines key short = let no_long = short_key key (omega (arith, short, length-byte_len key)) in rw (sym no_long) refl

quoted_bound : (value : List ℕ) → plain_in_style value ≡ false → byte_len (in_double_quotes value) ≤ 24 * byte_len value + 6
quoted_bound value quoted =
    let shown : byte_len (key_text value) ≡ byte_len (in_double_quotes value) = rw quoted refl in
    omega (arith, key_bytes value, key_bytes_bound value, shown)

literal_bound : (fresh : Bool) (cs : List ℕ) → byte_len (literal_lines 2 fresh cs) ≤ 3 * byte_len cs + 1
literal_bound true [] = omega arith
literal_bound false [] = omega arith
literal_bound fresh (c ∷ cs) = by (c == line_feed) fresh (literal_bound true cs) (literal_bound false cs)
  where
    by : (feed starts : Bool) → byte_len (literal_lines 2 true cs) ≤ 3 * byte_len cs + 1
        → byte_len (literal_lines 2 false cs) ≤ 3 * byte_len cs + 1
        → byte_len (if feed then line_feed ∷ literal_lines 2 true cs
        else (if starts then spaces 2 else []) ++ c ∷ literal_lines 2 false cs) ≤ 3 * byte_len (c ∷ cs) + 1
    by true starts on off = omega (arith, on, len_utf8_bounds c)
    by false true on off = omega (arith, off, len_utf8_bounds c)
    by false false on off = omega (arith, off, len_utf8_bounds c)

mark_bound : (n : ℕ) → byte_len (literal_mark n) ≤ 2
mark_bound zero = omega arith
mark_bound (suc zero) = omega arith
mark_bound (suc (suc n)) = omega arith

-- a text is at most 24 times as long as its bytes, and ten more
pub text_bound : (value : List ℕ) → byte_len (scalar_lines 2 value) ≤ 24 * byte_len value + 10
text_bound value = by (plain_in_style value) (literal_in_style value) refl
  where
    by : (plain literal : Bool) → plain_in_style value ≡ plain
        → byte_len (if plain then value ++ codes "\n" else if literal
        then literal_mark (feeds_at_end value) ++ codes "\n" ++ literal_lines 2 true value
        else in_double_quotes value ++ codes "\n") ≤ 24 * byte_len value + 10
    by true literal e = omega (arith, byte_len-append value (codes "\n"))
    by false true e =
        omega (
          arith,
          mark_bound (feeds_at_end value),
          literal_bound true value,
          three (literal_mark (feeds_at_end value)) (codes "\n") (literal_lines 2 true value),
        )
    by false false e = omega (arith, quoted_bound value e, byte_len-append (in_double_quotes value) (codes "\n"))
