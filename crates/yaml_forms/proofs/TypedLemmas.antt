-- What the scalars are that the core schema resolves to something other than a text: ASCII, and fit to stand plain.
use Rattle.std.proofs.Common.{◌≡◌, ℕ, ◌<◌, Bool, true, false, not, ◌&&◌, ◌||◌, ◌==◌, cond, List, [], ◌∷◌, codes, IsUtf8, refl, sym, ap, ◌∙◌}
use Rattle.std.proofs.Common.{inl, inr, arith}
use Rattle.yaml_forms.proofs.Prelude.{list_all, chars, and_parts, and_from, or_cases, or_left, or_right, eqb-true, false≢true, nat_tests}
use Rattle.yaml_forms.proofs.Prelude.{in_range, is_in, first, same_text, hex_digit, letter, is_among, same_text-true, every-IsAscii}
use Rattle.yaml_forms.{proofs.Prelude.{chars-same, chars-IsAscii}, specs.CoreScalars.{null_words, truth_words, float_words, digit}}
use Rattle.yaml_forms.specs.CoreScalars.{octal_digit, digits, after_sign, after_digits, exponent, fraction, unsigned, based, based_number}
use Rattle.yaml_forms.specs.CoreScalars.{is_typed}

-- a character of such a scalar
abbrev pub typed_char : ℕ → Bool
typed_char c = in_range 48 57 c || letter c || is_in c (codes "+-.~")

-- its characters are such ones, and it starts neither with `--` nor with `..`, nor is it `-` or `.` alone
abbrev pub typed_shape : List ℕ → Bool
typed_shape [] = false
typed_shape (x ∷ xs) =
    typed_char x && list_all typed_char xs && (not (x == 45) || first (λ y. not (y == 45)) xs)
    && (not (x == 46) || first (λ y. not (y == 46)) xs)

-- ---- words

-- a test that each of the words passes holds for one of them
among_holds : (p : List ℕ → Bool) (v : List ℕ) (ws : List (List ℕ)) → list_all p ws ≡ true → is_among v ws ≡ true → p v ≡ true
among_holds p v [] h i = absurd (false≢true i)
among_holds p v (w ∷ ws) h i =
    let q : (p w ≡ true) × (list_all p ws ≡ true) = and_parts _ _ h in
    elim (or_cases (same_text v w) (is_among v ws) i) [
      | inl e ↦ ap p (same_text-true v w e) ∙ q.0
      | inr j ↦ among_holds p v ws q.1 j
    ]

-- ---- digits

-- a test that holds for one list of characters holds for those of another that are among them
all_weaker : (p q : ℕ → Bool) (cs : List ℕ) → ((c : ℕ) → p c ≡ true → q c ≡ true) → list_all p cs ≡ true → list_all q cs ≡ true
all_weaker p q [] f h = refl
all_weaker p q (c ∷ cs) f h =
    let r : (p c ≡ true) × (list_all p cs ≡ true) = and_parts _ _ h in
    and_from _ _ (f c r.0) (all_weaker p q cs f r.1)

-- a digit is such a character
digit_typed : (c : ℕ) → digit c ≡ true → typed_char c ≡ true
digit_typed c h = or_left (in_range 48 57 c || letter c) _ (or_left (in_range 48 57 c) (letter c) h)

-- and so is one of the base 8 or 16
octal_typed : (c : ℕ) → octal_digit c ≡ true → typed_char c ≡ true
octal_typed c h = grind (arith, nat_tests)

-- a hexadecimal digit is such a character
hex_typed : (c : ℕ) → hex_digit c ≡ true → typed_char c ≡ true
hex_typed c h = grind (arith, nat_tests)

-- a sign is such a character
sign_typed : (c : ℕ) → is_in c (codes "-+") ≡ true → typed_char c ≡ true
sign_typed c h = grind (arith, nat_tests)

-- the letter of an exponent is such a character
letter_typed : (c : ℕ) → is_in c (codes "eE") ≡ true → typed_char c ≡ true
letter_typed c h = grind (arith, nat_tests)

-- ---- numbers: all their characters are such ones

abbrev AllTyped : List ℕ → Type 0
AllTyped cs = list_all typed_char cs ≡ true

-- digits
digits_typed : (p : ℕ → Bool) (cs : List ℕ) → ((c : ℕ) → p c ≡ true → typed_char c ≡ true) → digits p cs ≡ true → AllTyped cs
digits_typed p cs f h = all_weaker p typed_char cs f (and_parts _ _ h).1

-- what is after the digits at the start, and before
after_digits_typed : (cs : List ℕ) → AllTyped (after_digits cs) → AllTyped cs
after_digits_typed [] h = refl
after_digits_typed (c ∷ cs) h = by (digit c) refl (after_digits_typed cs) h
  where
    by : (b : Bool) → digit c ≡ b → (AllTyped (after_digits cs) → AllTyped cs)
        → AllTyped (cond b (after_digits cs) (c ∷ cs)) → AllTyped (c ∷ cs)
    by true e more k = and_from _ _ (digit_typed c e) (more k)
    by false e more k = k

-- what is after a sign, and the sign
after_sign_typed : (cs : List ℕ) → AllTyped (after_sign cs) → AllTyped cs
after_sign_typed [] h = refl
after_sign_typed (c ∷ cs) h = by (is_in c (codes "-+")) refl h
  where
    by : (b : Bool) → is_in c (codes "-+") ≡ b → AllTyped (cond b cs (c ∷ cs)) → AllTyped (c ∷ cs)
    by true e k = and_from _ _ (sign_typed c e) k
    by false e k = k

-- an exponent
exponent_typed : (cs : List ℕ) → exponent cs ≡ true → AllTyped cs
exponent_typed [] h = refl
exponent_typed (c ∷ cs) h =
    let p : (is_in c (codes "eE") ≡ true) × (digits digit (after_sign cs) ≡ true) = and_parts _ _ h in
    and_from _ _ (letter_typed c p.0) (after_sign_typed cs (digits_typed digit (after_sign cs) digit_typed p.1))

-- a point is such a character
point_typed : (c : ℕ) → c == 46 ≡ true → typed_char c ≡ true
point_typed c e = ap typed_char (eqb-true c 46 e)

-- a fraction
fraction_typed : (cs : List ℕ) → fraction cs ≡ true → AllTyped cs
fraction_typed [] h = refl
fraction_typed (c ∷ cs) h = by (c == 46) refl h
  where
    by : (b : Bool) → (c == 46) ≡ b → cond b (exponent (after_digits cs)) (exponent (c ∷ cs)) ≡ true → AllTyped (c ∷ cs)
    by true e k = and_from _ _ (point_typed c e) (after_digits_typed cs (exponent_typed (after_digits cs) k))
    by false e k = exponent_typed (c ∷ cs) k

-- the first character of a number without its sign
abbrev Begins : List ℕ → Type 0
Begins cs = first (λ y. not (y == 45)) cs ≡ true

-- a digit is no dash
digit_begins : (c : ℕ) → digit c ≡ true → not (c == 45) ≡ true
digit_begins c h = grind (arith, nat_tests)

-- a digit is no point
digit_no_point : (c : ℕ) → digit c ≡ true → not (c == 46) ≡ true
digit_no_point c h = grind (arith, nat_tests)

-- the first of digits is no point
digits_no_point : (cs : List ℕ) → first digit cs ≡ true → first (λ y. not (y == 46)) cs ≡ true
digits_no_point [] h = absurd (false≢true h)
digits_no_point (c ∷ cs) h = digit_no_point c h

-- a number without its sign: what it is made of
record Number (cs : List ℕ) : Type 0 where
  typed : AllTyped cs
  shape : typed_shape cs ≡ true
  begins : Begins cs

-- a number without its sign
number_of : (cs : List ℕ) → unsigned cs ≡ true → Number cs
number_of [] h = absurd (false≢true h)
number_of (c ∷ cs) h = by (c == 46) refl h
  where
    by : (b : Bool) → (c == 46) ≡ b → cond b (first digit cs && exponent (after_digits cs))
        (digit c && fraction (after_digits cs)) ≡ true → Number (c ∷ cs)
    by true e k =
        let p : (first digit cs ≡ true) × (exponent (after_digits cs) ≡ true) = and_parts _ _ k in
        let rest : AllTyped cs = after_digits_typed cs (exponent_typed (after_digits cs) p.1) in
        let here : typed_char c ≡ true = point_typed c e in
        let other : not (c == 45) ≡ true = ap (λ x. not (x == 45)) (eqb-true c 46 e) in
        record {
          typed = and_from _ _ here rest;
          shape = and_from _ _ (and_from _ _ (and_from _ _ here rest) (or_left _ _ other))
              (or_right (not (c == 46)) _ (digits_no_point cs p.0));
          begins = other;
        }
    by false e k =
        let p : (digit c ≡ true) × (fraction (after_digits cs) ≡ true) = and_parts _ _ k in
        let rest : AllTyped cs = after_digits_typed cs (fraction_typed (after_digits cs) p.1) in
        let here : typed_char c ≡ true = digit_typed c p.0 in
        let other : not (c == 45) ≡ true = digit_begins c p.0 in
        record {
          typed = and_from _ _ here rest;
          shape = and_from _ _ (and_from _ _ (and_from _ _ here rest) (or_left _ _ other)) (or_left _ _ (digit_no_point c p.0));
          begins = other;
        }

-- a sign is no point
sign_no_point : (c : ℕ) → is_in c (codes "-+") ≡ true → not (c == 46) ≡ true
sign_no_point c h = grind (arith, nat_tests)

-- a number
signed_shape : (cs : List ℕ) → unsigned (after_sign cs) ≡ true → typed_shape cs ≡ true
signed_shape [] h = absurd (false≢true h)
signed_shape (c ∷ cs) h = by (is_in c (codes "-+")) refl h
  where
    by : (b : Bool) → is_in c (codes "-+") ≡ b → unsigned (cond b cs (c ∷ cs)) ≡ true → typed_shape (c ∷ cs) ≡ true
    by true e k =
        let n : Number cs = number_of cs k in
        and_from _ _ (and_from _ _ (and_from _ _ (sign_typed c e) n.typed) (or_right (not (c == 45)) _ n.begins))
        (or_left _ _ (sign_no_point c e))
    by false e k = (number_of (c ∷ cs) k).shape

-- a number of the base 8 or 16, after its 0
based_typed : (cs : List ℕ) → based cs ≡ true → AllTyped cs
based_typed [] h = absurd (false≢true h)
based_typed (c ∷ cs) h = elim (or_cases ((c == 111) && digits octal_digit cs) ((c == 120) && digits hex_digit cs) h) [
  | inl a ↦ (let p : (c == 111 ≡ true) × (digits octal_digit cs ≡ true) = and_parts _ _ a in
      and_from _ _ (ap typed_char (eqb-true c 111 p.0)) (digits_typed octal_digit cs octal_typed p.1))
  | inr a ↦ (let p : (c == 120 ≡ true) × (digits hex_digit cs ≡ true) = and_parts _ _ a in
      and_from _ _ (ap typed_char (eqb-true c 120 p.0)) (digits_typed hex_digit cs hex_typed p.1))
]

-- a number of the base 8 or 16
based_shape : (cs : List ℕ) → based_number cs ≡ true → typed_shape cs ≡ true
based_shape [] h = absurd (false≢true h)
based_shape (c ∷ cs) h =
    let p : (c == 48 ≡ true) × (based cs ≡ true) = and_parts _ _ h in
    let zero : c ≡ 48 = eqb-true c 48 p.0 in
    and_from _ _
    (and_from _ _ (and_from _ _ (ap typed_char zero) (based_typed cs p.1)) (or_left _ _ (ap (λ x. not (x == 45)) zero)))
    (or_left _ _ (ap (λ x. not (x == 46)) zero))

-- each such scalar has this shape
pub typed_shaped : (cs : List ℕ) → is_typed cs ≡ true → typed_shape cs ≡ true
typed_shaped cs h = elim (or_cases (is_among cs null_words || is_among cs truth_words || is_among cs float_words
    || based_number cs) (unsigned (after_sign cs)) h) [
      | inr n ↦ signed_shape cs n
      | inl a ↦ elim (or_cases (is_among cs null_words || is_among cs truth_words || is_among cs float_words) (based_number cs) a) [
        | inr n ↦ based_shape cs n
        | inl b ↦ elim (or_cases (is_among cs null_words || is_among cs truth_words) (is_among cs float_words) b) [
          | inr i ↦ among_holds typed_shape cs float_words refl i
          | inl d ↦ elim (or_cases (is_among cs null_words) (is_among cs truth_words) d) [
            | inl i ↦ among_holds typed_shape cs null_words refl i
            | inr i ↦ among_holds typed_shape cs truth_words refl i
          ]
        ]
      ]
    ]

-- ---- ASCII

-- such a character is ASCII
pub typed_low : (c : ℕ) → typed_char c ≡ true → c < 128
typed_low c h = grind (arith, nat_tests)

-- all characters of such a scalar are such ones
pub typed_all : (cs : List ℕ) → is_typed cs ≡ true → list_all typed_char cs ≡ true
typed_all [] h = refl
typed_all (c ∷ cs) h = (and_parts _ _ (and_parts _ _ (typed_shaped (c ∷ cs) h)).0).0

-- a text is such a scalar just where its bytes are one
pub typed-bytes : (bs : List ℕ) → IsUtf8 bs → is_typed bs ≡ is_typed (chars bs)
typed-bytes bs utf8 =
    same_truth (is_typed bs) (is_typed (chars bs))
    (λ e. ap is_typed (chars-IsAscii bs (every-IsAscii typed_char typed_low bs (typed_all bs e))) ∙ e)
    (λ e. ap is_typed (sym (chars-same bs utf8 (every-IsAscii typed_char typed_low (chars bs) (typed_all (chars bs) e)))) ∙ e)
  where
    same_truth : (a b : Bool) → (a ≡ true → b ≡ true) → (b ≡ true → a ≡ true) → a ≡ b
    same_truth true b f g = sym (f refl)
    same_truth false true f g = g refl
    same_truth false false f g = refl
