-- What is written for a character between double quotes fits there, and means that character.
use Rattle.std.{proofs.Common.{◌≡◌, refl, sym, ◌∙◌, ap, subst, inl, inr, arith, ◌<◌, ◌≤◌}, specs.Prelude.{ℕ, ◌/◌, ◌%◌, Bool, true, false}}
use Rattle.std.specs.Prelude.{not, ◌&&◌, ◌||◌, nat_le, ◌==◌, [], ◌∷◌}
use Rattle.yaml_recognizers.proofs.Prelude.{cond_both, and_parts, and_from, or_parts, or_cases, or_right, or_from, not_from_false, eqb-true}
use Rattle.yaml_recognizers.proofs.Prelude.{le-leb, leb-true, agree_below_at, false≢true, cases_lt, ne_eqb, in_range, is_in, code_point}
use Rattle.yaml_recognizers.proofs.Prelude.{printable, nb_json, QuotedChar, raw, escape, number, quoted_char_fits, quoted_char_value}
use Rattle.yaml_recognizers.proofs.Prelude.{hex_digit, digit_of, hex_value, escaped_char, shown, hex, letter_escape}
use Rattle.yaml_recognizers.proofs.OneStyle.{Presented.item_of, Characters.{from_range, to_range, after_not, code_point_high, shown_low}}

-- the item may be between double quotes and means c
abbrev pub Quotes : ℕ → QuotedChar → Type 0
Quotes c i = (quoted_char_fits i ≡ true) × (quoted_char_value i ≡ c)

-- ---- a character that means itself

-- a shown character is written as itself
itself : (c : ℕ) → code_point c ≡ true → (c == 34) || (c == 92) ≡ false → shown c ≡ true → Quotes c (raw c)
itself c t n h =
    let one_line : nb_json c ≡ true = or_right (c == 9) _ (to_range 0x20 0x10ffff c (shown_low c h) (code_point_high c t)) in
    let other : (c == 34 ≡ false) × (c == 92 ≡ false) = or_parts _ _ n in
    (and_from _ _ one_line (not_from_false _ (or_from _ _ other.0 (or_from _ _ other.1 refl))), refl)

-- ---- escapes

-- a quote or a backslash is written after a backslash
escaped : (c : ℕ) → (c == 34) || (c == 92) ≡ true → Quotes c (escape c)
escaped c h = elim (or_cases _ _ h) [
  | inl e ↦ subst (λ x. Quotes x (escape x)) (sym (eqb-true c 34 e)) (refl, refl)
  | inr e ↦ subst (λ x. Quotes x (escape x)) (sym (eqb-true c 92 e)) (refl, refl)
]

-- the character has a short escape that is no quote and no backslash
abbrev has_letter : ℕ → Bool
has_letter c = (c == 0) || in_range 7 13 c || (c == 27)

-- its letter means it
abbrev letter_right : ℕ → Bool
letter_right c = not (has_letter c) || (quoted_char_fits (escape (letter_escape c)) && (escaped_char (letter_escape c) == c))

-- such a character is below 28
has_letter_low : (c : ℕ) → has_letter c ≡ true → c < 28
has_letter_low c h = elim (or_cases ((c == 0) || in_range 7 13 c) (c == 27) h) [
  | inl a ↦ elim (or_cases (c == 0) (in_range 7 13 c) a) [
    | inl e ↦ (let q : c ≡ 0 = eqb-true c 0 e in omega (arith, q))
    | inr r ↦ (let q : (7 ≤ c) × (c ≤ 13) = from_range 7 13 c r in omega (arith, q.1))
  ]
  | inr e ↦ (let q : c ≡ 27 = eqb-true c 27 e in omega (arith, q))
]

-- such a character is written by its letter
lettered : (c : ℕ) → has_letter c ≡ true → Quotes c (escape (letter_escape c))
lettered c h =
    let right : letter_right c ≡ true = agree_below_at letter_right (λ x. true) 28 c refl (has_letter_low c h) in
    let p : (quoted_char_fits (escape (letter_escape c)) ≡ true) × (escaped_char (letter_escape c) == c ≡ true) =
    and_parts _ _ (after_not _ _ right h) in
    (p.0, eqb-true _ c p.1)

-- ---- numbers

-- two digits mean the character
abbrev short_right : ℕ → Bool
short_right c = quoted_char_fits (number 120 (hex (c / 16) ∷ hex (c % 16) ∷ [])) && (hex_value 0 (hex (c / 16) ∷ hex (c % 16) ∷ []) == c)

-- a character up to 0xff is written by two digits
short_number : (c : ℕ) → nat_le c 0xff ≡ true → Quotes c (number 120 (hex (c / 16) ∷ hex (c % 16) ∷ []))
short_number c h =
    let low : c < 256 = (let q : c ≤ 255 = leb-true c 255 h in omega (arith, q)) in
    let p : (quoted_char_fits (number 120 (hex (c / 16) ∷ hex (c % 16) ∷ [])) ≡ true)
    × (hex_value 0 (hex (c / 16) ∷ hex (c % 16) ∷ []) == c ≡ true) =
    and_parts _ _ (agree_below_at short_right (λ x. true) 256 c refl low) in
    (p.0, eqb-true _ c p.1)

-- the digit means the number
abbrev digit_right : ℕ → Bool
digit_right d = hex_digit (hex d) && (digit_of (hex d) == d)

-- the digit of a number below 16 means it
digit : (d : ℕ) → d < 16 → (hex_digit (hex d) ≡ true) × (digit_of (hex d) ≡ d)
digit d h =
    let p : (hex_digit (hex d) ≡ true) × (digit_of (hex d) == d ≡ true) =
    and_parts _ _ (agree_below_at digit_right (λ x. true) 16 d refl h) in
    (p.0, eqb-true _ d p.1)

-- a character below 0x10000 is written by four digits
pub long_number : (c : ℕ) → code_point c ≡ true → c < 0x10000
    → Quotes c (number 117 (hex (c / 4096) ∷ hex (c / 256 % 16) ∷ hex (c / 16 % 16) ∷ hex (c % 16) ∷ []))
long_number c t h =
    let a : (hex_digit (hex (c / 4096)) ≡ true) × (digit_of (hex (c / 4096)) ≡ c / 4096) = digit (c / 4096) (omega arith) in
    let b : (hex_digit (hex (c / 256 % 16)) ≡ true) × (digit_of (hex (c / 256 % 16)) ≡ c / 256 % 16) = digit (c / 256 % 16) (omega arith) in
    let d : (hex_digit (hex (c / 16 % 16)) ≡ true) × (digit_of (hex (c / 16 % 16)) ≡ c / 16 % 16) = digit (c / 16 % 16) (omega arith) in
    let e : (hex_digit (hex (c % 16)) ≡ true) × (digit_of (hex (c % 16)) ≡ c % 16) = digit (c % 16) (omega arith) in
    let value : hex_value 0 (hex (c / 4096) ∷ hex (c / 256 % 16) ∷ hex (c / 16 % 16) ∷ hex (c % 16) ∷ []) ≡ c =
    omega (arith, a.1, b.1, d.1, e.1) in (
      and_from _ _ (and_from _ _ refl (and_from _ _ a.0 (and_from _ _ b.0 (and_from _ _ d.0 (and_from _ _ e.0 refl)))))
          (ap code_point value ∙ t),
      value,
    )

-- a greater number is another one
above : (k c : ℕ) → k < c → c == k ≡ false
above k c h = ne_eqb c k (λ e. omega (arith, e))

-- a character above xFFFF is shown
shown_above : (c : ℕ) → code_point c ≡ true → 0x10000 ≤ c → shown c ≡ true
shown_above c t h =
    let plain : printable c ≡ true = or_right _ _ (to_range 0x10000 0x10ffff c h (code_point_high c t)) in
    let other : is_in c (0x2028 ∷ 0x2029 ∷ 0xfeff ∷ []) ≡ false =
    or_from _ _ (above 0x2028 c (omega arith)) (or_from _ _ (above 0x2029 c (omega arith))
    (or_from _ _ (above 0xfeff c (omega arith)) refl)) in
    or_right _ _ (and_from _ _ (and_from _ _ (le-leb 0xa0 c (omega arith)) plain) (not_from_false _ other))

-- a character that isn't shown is below 0x10000
pub unshown_low : (c : ℕ) → code_point c ≡ true → shown c ≡ false → c < 0x10000
unshown_low c t s = elim (cases_lt c 0x10000) [
  | inl h ↦ h
  | inr h ↦ absurd (false≢true (sym s ∙ shown_above c t h))
]

-- ---- all of them

-- what is written for a character fits and means it
pub item_quotes : (c : ℕ) → code_point c ≡ true → Quotes c (item_of c)
item_quotes c t =
    cond_both ((c == 34) || (c == 92)) _ _ (Quotes c) (λ e. escaped c e) (λ n.
    cond_both (shown c) _ _ (Quotes c) (λ s. itself c t n s) (λ s.
    cond_both (has_letter c) _ _ (Quotes c) (λ l. lettered c l) (λ l.
    cond_both (nat_le c 0xff) _ _ (Quotes c) (λ u. short_number c u) (λ u. long_number c t (unshown_low c t s)))))
