-- What is written for a character of a string fits between double quotes, and means that character.
use Rattle.std.{proofs.Common.{◌≡◌, refl, sym, subst, inl, inr, arith, ◌<◌}, specs.Prelude.{ℕ, ◌/◌, ◌%◌, true, ◌||◌, ◌==◌, List, [], ◌∷◌}}
use Rattle.std.specs.Prelude.{◌++◌}
use Rattle.yaml_forms.proofs.Prelude.{list_all, cond_both, and_parts, and_from, or_cases, eqb-true, agree_below_at, false≢true, code_point}
use Rattle.yaml_forms.proofs.Prelude.{IsText, escape, shown, hex, letter_escape, Quotes, item_quotes, long_number, unshown_low}
use Rattle.yaml_forms.{proofs.{Prelude.every_joined, JsonPresented.item_of}, specs.Json.{has_letter, json_char, json_chars, json_string}}
use Rattle.yaml_recognizers.proofs.OneStyle.Presented as style

-- ---- escapes by a letter

-- its letter means it
abbrev LetterRight : ℕ → Type 0
LetterRight c = Quotes c (escape (letter_escape c))

-- what holds of each character that has a letter
pub for_letters : (P : ℕ → Type 0) → P 8 → P 9 → P 10 → P 12 → P 13 → (c : ℕ) → has_letter c ≡ true → P c
for_letters P p8 p9 p10 p12 p13 c h = elim (or_cases (c == 8) _ h) [
  | inl e ↦ subst P (sym (eqb-true c 8 e)) p8
  | inr k ↦ elim (or_cases (c == 9) _ k) [
    | inl e ↦ subst P (sym (eqb-true c 9 e)) p9
    | inr l ↦ elim (or_cases (c == 10) _ l) [
      | inl e ↦ subst P (sym (eqb-true c 10 e)) p10
      | inr m ↦ elim (or_cases (c == 12) _ m) [
        | inl e ↦ subst P (sym (eqb-true c 12 e)) p12
        | inr n ↦ elim (or_cases (c == 13) _ n) [
          | inl e ↦ subst P (sym (eqb-true c 13 e)) p13
          | inr o ↦ absurd (false≢true o)
        ]
      ]
    ]
  ]
]

-- a character that has a letter is written by it
lettered : (c : ℕ) → has_letter c ≡ true → LetterRight c
lettered c h = for_letters LetterRight (refl, refl) (refl, refl) (refl, refl) (refl, refl) (refl, refl) c h

-- ---- all of them

-- what is written for a character fits and means it
pub json_quotes : (c : ℕ) → code_point c ≡ true → Quotes c (item_of c)
json_quotes c t =
    let styled : Quotes c (style.item_of c) = item_quotes c t in
    cond_both ((c == 34) || (c == 92)) _ _ (Quotes c) (λ e. rw e at styled) (λ n.
    cond_both (shown c) _ _ (Quotes c) (λ s. rw (n, s) at styled) (λ s.
    cond_both (has_letter c) _ _ (Quotes c) (λ l. lettered c l) (λ l. long_number c t (unshown_low c t s))))

-- ---- strings are texts

-- the letter of an escape is a character
letter_text : (c : ℕ) → has_letter c ≡ true → code_point (letter_escape c) ≡ true
letter_text c h = for_letters (λ x. code_point (letter_escape x) ≡ true) refl refl refl refl refl c h

-- the digit of a number below 16 is a character
digit_text : (d : ℕ) → d < 16 → code_point (hex d) ≡ true
digit_text d h = agree_below_at (λ d. code_point (hex d)) (λ x. true) 16 d refl h

-- the escape of a character below 0x10000 is a text
number_text : (c : ℕ) → c < 0x10000 → IsText (92 ∷ 117 ∷ hex (c / 4096) ∷ hex (c / 256 % 16) ∷ hex (c / 16 % 16) ∷ hex (c % 16) ∷ [])
number_text c h =
    let a = digit_text (c / 4096) (omega arith) in
    let b = digit_text (c / 256 % 16) (omega arith) in
    let d = digit_text (c / 16 % 16) (omega arith) in
    let e = digit_text (c % 16) (omega arith) in
    and_from _ _ refl (and_from _ _ refl (and_from _ _ a (and_from _ _ b (and_from _ _ d (and_from _ _ e refl)))))

-- what is written for a character is a text
char_text : (c : ℕ) → code_point c ≡ true → IsText (json_char c)
char_text c t =
    cond_both ((c == 34) || (c == 92)) _ _ IsText (λ e. and_from _ _ refl (and_from _ _ t refl)) (λ n.
    cond_both (shown c) _ _ IsText (λ s. and_from _ _ t refl) (λ s.
    cond_both (has_letter c) _ _ IsText (λ l. and_from _ _ refl (and_from _ _ (letter_text c l) refl)) (λ l.
    number_text c (unshown_low c t s))))

-- two texts, joined, are a text
pub joined : (prefix after : List ℕ) → IsText prefix → IsText after → IsText (prefix ++ after)
joined prefix after h k = every_joined code_point prefix after h k

-- the characters of a string are a text
chars_text : (value : List ℕ) → IsText value → IsText (json_chars value)
chars_text [] h = refl
chars_text (c ∷ cs) h =
    let p : (code_point c ≡ true) × (list_all code_point cs ≡ true) = and_parts _ _ h in
    joined (json_char c) (json_chars cs) (char_text c p.0) (chars_text cs p.1)

-- a string is a text
pub string_text : (value : List ℕ) → IsText value → IsText (json_string value)
string_text value h = and_from _ _ refl (joined (json_chars value) (34 ∷ []) (chars_text value h) refl)
