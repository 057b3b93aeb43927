-- What the characters of words, quoted texts and literals in the one style are.
use Rattle.std.proofs.Common.{◌≡◌, refl, ◌∙◌, ap, inl, inr, arith, ◌<◌, ◌≤◌}
use Rattle.std.specs.Prelude.{ℕ, ◌+◌, ◌/◌, ◌%◌, Bool, true, false, not, ◌||◌, nat_lt, nat_le, ◌==◌, List, [], ◌∷◌, ◌++◌, codes}
use Rattle.yaml_recognizers.proofs.Prelude.{cond_both, and_parts, and_from, or_cases, eqb-true, le-leb, leb-true, ltb-true, agree_below}
use Rattle.yaml_recognizers.proofs.Prelude.{agree_below_at, false≢true, in_range, is_in, code_point, list_all, letter, word_char, shown}
use Rattle.yaml_recognizers.proofs.Prelude.{hex, letter_escape, quoted_char, quoted_chars}

-- ---- ranges and lists

-- a character of a range is between its ends
pub from_range : (low high c : ℕ) → in_range low high c ≡ true → (low ≤ c) × (c ≤ high)
from_range low high c h =
    let p : (nat_le low c ≡ true) × (nat_le c high ≡ true) = and_parts _ _ h in
    (leb-true low c p.0, leb-true c high p.1)

-- a character between the ends of a range is of it
pub to_range : (low high c : ℕ) → low ≤ c → c ≤ high → in_range low high c ≡ true
to_range low high c l h = and_from _ _ (le-leb low c l) (le-leb c high h)

-- a test of two texts is one of both joined
pub every_joined : (p : ℕ → Bool) (prefix after : List ℕ) → list_all p prefix ≡ true → list_all p after ≡ true
    → list_all p (prefix ++ after) ≡ true
every_joined p [] after h k = k
every_joined p (c ∷ cs) after h k =
    let q : (p c ≡ true) × (list_all p cs ≡ true) = and_parts _ _ h in
    and_from _ _ q.0 (every_joined p cs after q.1 k)

-- a test that passes all elements passes one of them
every_at : (p : ℕ → Bool) (x : ℕ) (cs : List ℕ) → list_all p cs ≡ true → is_in x cs ≡ true → p x ≡ true
every_at p x [] h i = absurd (false≢true i)
every_at p x (c ∷ cs) h i =
    let q : (p c ≡ true) × (list_all p cs ≡ true) = and_parts _ _ h in
    elim (or_cases (x == c) (is_in x cs) i) [
      | inl e ↦ ap p (eqb-true x c e) ∙ q.0
      | inr j ↦ every_at p x cs q.1 j
    ]

-- no code point is above x10FFFF
pub code_point_high : (c : ℕ) → code_point c ≡ true → c ≤ 0x10ffff
code_point_high c h = elim (or_cases _ _ h) [
  | inl a ↦ (let p : (0 ≤ c) × (c ≤ 0xd7ff) = from_range 0 0xd7ff c a in omega (arith, p.1))
  | inr a ↦ (from_range 0xe000 0x10ffff c a).1
]

-- a shown character is x20 or above
pub shown_low : (c : ℕ) → shown c ≡ true → 0x20 ≤ c
shown_low c h = elim (or_cases _ _ h) [
  | inl a ↦ (from_range 0x20 0x7e c a).0
  | inr a ↦ (let p : 0xa0 ≤ c = leb-true 0xa0 c (and_parts _ _ (and_parts _ _ a).0).0 in omega (arith, p))
]

-- ---- words: what holds of each letter, or of each character of a word, is found by looking at those below 128

-- a letter is ASCII
letter_low : (x : ℕ) → letter x ≡ true → x < 128
letter_low x h = elim (or_cases (in_range 65 90 x) (in_range 97 122 x) h) [
  | inl a ↦ (let q : (65 ≤ x) × (x ≤ 90) = from_range 65 90 x a in omega (arith, q.1))
  | inr a ↦ (let q : (97 ≤ x) × (x ≤ 122) = from_range 97 122 x a in omega (arith, q.1))
]

-- a character of a word is ASCII
word_low : (x : ℕ) → word_char x ≡ true → x < 128
word_low x h = elim (or_cases (letter x || in_range 48 57 x) (is_in x (codes "_-./")) h) [
  | inl a ↦ elim (or_cases (letter x) (in_range 48 57 x) a) [
    | inl l ↦ letter_low x l
    | inr r ↦ (let q : (48 ≤ x) × (x ≤ 57) = from_range 48 57 x r in omega (arith, q.1))
  ]
  | inr i ↦ ltb-true x 128 (every_at (λ s. nat_lt s 128) x (codes "_-./") refl i)
]

-- an implication as a test, and its premise
pub after_not : (a b : Bool) → not a || b ≡ true → a ≡ true → b ≡ true
after_not true b h e = h
after_not false b h e = absurd (false≢true e)

-- a test that holds for the letters below 128 holds for each letter
pub of_letter : (p : ℕ → Bool) (x : ℕ) → agree_below (λ y. not (letter y) || p y) (λ y. true) 128 ≡ true → letter x ≡ true → p x ≡ true
of_letter p x all h = after_not (letter x) (p x) (agree_below_at (λ y. not (letter y) || p y) (λ y. true) 128 x all (letter_low x h)) h

-- the same of the characters of words
pub of_word : (p : ℕ → Bool) (x : ℕ) → agree_below (λ y. not (word_char y) || p y) (λ y. true) 128 ≡ true → word_char x ≡ true → p x ≡ true
of_word p x all h = after_not (word_char x) (p x) (agree_below_at (λ y. not (word_char y) || p y) (λ y. true) 128 x all (word_low x h)) h

-- ---- quoted texts: what holds of all that they are written with

-- the letter is that of a short escape
abbrev Escaped : ℕ → Type 0
Escaped x = is_in x (codes "0abtnvfre") ≡ true

-- the letter of a short escape is one of nine
escape_letter : (c : ℕ) → is_in (letter_escape c) (codes "0abtnvfre") ≡ true
escape_letter c =
    cond_both (c == 0) _ _ Escaped (λ e. refl) (λ e.
    cond_both (c == 7) _ _ Escaped (λ e. refl) (λ e. cond_both (c == 8) _ _ Escaped (λ e. refl) (λ e.
    cond_both (c == 9) _ _ Escaped (λ e. refl) (λ e.
    cond_both (c == 10) _ _ Escaped (λ e. refl) (λ e. cond_both (c == 11) _ _ Escaped (λ e. refl) (λ e.
    cond_both (c == 12) _ _ Escaped (λ e. refl) (λ e. cond_both (c == 13) _ _ Escaped (λ e. refl) (λ e. refl))))))))

-- p holds of all that the character may be written with: the signs and letters of escapes, itself, and the digits of
-- its number
pub record Writes (p : ℕ → Bool) (c : ℕ) : Type 0 where
  pub signs : list_all p (codes "\"\\xu") ≡ true
  pub letters : list_all p (codes "0abtnvfre") ≡ true
  pub shown : shown c ≡ true → p c ≡ true
  pub digits : (d : ℕ) → d ≤ 15 + c / 4096 → p (hex d) ≡ true

-- a test that passes all that may be written for c passes what is written
quoted_char_all : (p : ℕ → Bool) (c : ℕ) → Writes p c → list_all p (quoted_char c) ≡ true
quoted_char_all p c w =
    let sign : (x : ℕ) → is_in x (codes "\"\\xu") ≡ true → p x ≡ true = λ x i. every_at p x (codes "\"\\xu") w.signs i in
    let slash : p 92 ≡ true = sign 92 refl in
    cond_both ((c == 34) || (c == 92)) _ _ (λ cs. list_all p cs ≡ true)
    (λ e. and_from _ _ slash (and_from _ _ (elim (or_cases (c == 34) (c == 92) e)
    [ inl q ↦ ap p (eqb-true c 34 q) ∙ sign 34 refl | inr q ↦ ap p (eqb-true c 92 q) ∙ slash ]) refl)) (λ n.
    cond_both (shown c) _ _ (λ cs. list_all p cs ≡ true) (λ s. and_from _ _ (w.shown s) refl) (λ s.
    cond_both ((c == 0) || in_range 7 13 c || (c == 27)) _ _ (λ cs. list_all p cs ≡ true)
    (λ l. and_from _ _ slash (and_from _ _ (every_at p (letter_escape c) (codes "0abtnvfre") w.letters (escape_letter c)) refl)) (λ l.
    cond_both (nat_le c 0xff) _ _ (λ cs. list_all p cs ≡ true)
    (λ u. let low : c ≤ 0xff = leb-true c 0xff u in
    and_from _ _ slash (and_from _ _ (sign 120 refl)
    (and_from _ _ (w.digits (c / 16) (omega (arith, low))) (and_from _ _ (w.digits (c % 16) (omega arith)) refl))))
    (λ u. and_from _ _ slash (and_from _ _ (sign 117 refl)
    (and_from _ _ (w.digits (c / 4096) (omega arith)) (and_from _ _ (w.digits (c / 256 % 16) (omega arith))
    (and_from _ _ (w.digits (c / 16 % 16) (omega arith)) (and_from _ _ (w.digits (c % 16) (omega arith)) refl)))))))))

-- all that a text is written with between its quotes has p, where it does at each character that has q
pub quoted_chars_all : (p q : ℕ → Bool) (cs : List ℕ) → ((c : ℕ) → q c ≡ true → Writes p c) → list_all q cs ≡ true
    → list_all p (quoted_chars cs) ≡ true
quoted_chars_all p q [] w h = refl
quoted_chars_all p q (c ∷ cs) w h =
    let r : (q c ≡ true) × (list_all q cs ≡ true) = and_parts _ _ h in
    every_joined p (quoted_char c) (quoted_chars cs) (quoted_char_all p c (w c r.0)) (quoted_chars_all p q cs w r.1)
