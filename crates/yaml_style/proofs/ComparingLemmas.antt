-- A text and what is written, one character after another.
use Rattle.std.proofs.Common.{◌≡◌, ◌≢◌, ℕ, ◌-◌, ◌<◌, ◌≤◌, suc, Some, None, Bool, true, false, ◌==◌, List, [], ◌∷◌, ◌++◌, refl, sym, ap, ap₂}
use Rattle.std.proofs.Common.{◌∙◌, subst, arith, take, drop, length, length-append, inl, inr}
use Rattle.yaml_style.proofs.Prelude.{chars, IsUtf8, IsCharBoundary, eq-eqb, eqb-true, false≢true, and_parts, cases_lt, cases_Bool, take_at}
use Rattle.yaml_style.proofs.Prelude.{append_cancel_right, chars-append, encodes-append, encodes-chars, IsUtf8-take, IsCharBoundary-at_seam}
use Rattle.yaml_style.proofs.Prelude.{rest, rest-end, same_text}
use lib.Utf8.{encodes}
use Rattle.yaml_style.specs.{Findings.common, Findings.style_line, Lines.breaks, Comparing.comparison_after}

-- ---- one character

-- an equal character on both sides changes nothing
pub same_char : (c d : ℕ) (xs ys : List ℕ) → c ≡ d → comparison_after (c ∷ xs) true (d ∷ ys) ≡ comparison_after xs true ys
same_char c d xs ys e = rw (eq-eqb c d e) refl

-- at different characters the comparison ends
pub other_char : (c d : ℕ) (xs ys : List ℕ) → (c == d) ≡ false → comparison_after (c ∷ xs) true (d ∷ ys) ≡ (c ∷ xs, false)
other_char c d xs ys e = rw e refl

-- nothing is left of the empty text
pub nothing_left : (ys : List ℕ) → (comparison_after [] true ys).0 ≡ []
nothing_left [] = refl
nothing_left (y ∷ ys) = refl

-- ---- a prefix

-- what comes after a common prefix is left
pub prefix : (xs left : List ℕ) → comparison_after (xs ++ left) true xs ≡ (left, true)
prefix [] left = refl
prefix (x ∷ xs) left = same_char x x (xs ++ left) xs refl ∙ prefix xs left

-- if the two agree, what is written is a prefix of the text
pub is_prefix : (text written left : List ℕ) → comparison_after text true written ≡ (left, true) → text ≡ written ++ left
is_prefix text [] left e = ap (λ (s : List ℕ × Bool). s.0) e
is_prefix [] (c ∷ cs) left e = absurd (false≢true (ap (λ (s : List ℕ × Bool). s.1) e))
is_prefix (d ∷ ds) (c ∷ cs) left e = by_test (d == c) refl (λ later. is_prefix ds cs left later)
  where
    by_test : (b : Bool) → (d == c) ≡ b → (comparison_after ds true cs ≡ (left, true) → ds ≡ cs ++ left) → d ∷ ds ≡ c ∷ cs ++ left
    by_test true same later =
        let e2 : comparison_after ds true cs ≡ (left, true) = sym (same_char d c ds cs (eqb-true d c same)) ∙ e in
        ap (λ x. x ∷ ds) (eqb-true d c same) ∙ ap (λ xs. c ∷ xs) (later e2)
    by_test false other later = absurd (false≢true (ap (λ (s : List ℕ × Bool). s.1) (sym (other_char d c ds cs other) ∙ e)))

-- ---- all of it

-- what is left of a text comes after the prefix that it shares with the other
pub shares : (text written : List ℕ) → common text written ++ (comparison_after text true written).0 ≡ text
shares [] [] = refl
shares [] (c ∷ cs) = refl
shares (d ∷ ds) [] = refl
shares (d ∷ ds) (c ∷ cs) = by_test (d == c) refl (shares ds cs)
  where
    by_test : (b : Bool) → (d == c) ≡ b → common ds cs ++ (comparison_after ds true cs).0 ≡ ds
        → common (d ∷ ds) (c ∷ cs) ++ (comparison_after (d ∷ ds) true (c ∷ cs)).0 ≡ d ∷ ds
    by_test true e later = rw e (ap (λ xs. d ∷ xs) later)
    by_test false e later = rw e refl

-- if they agree to the end, they are equal
pub same_where : (text written : List ℕ) → (comparison_after text true written).1 ≡ true
    → (comparison_after text true written).0 ≡ [] → same_text text written ≡ true
same_where [] [] agrees none = refl
same_where [] (c ∷ cs) agrees none = absurd (false≢true agrees)
same_where (d ∷ ds) [] agrees none = cc
same_where (d ∷ ds) (c ∷ cs) agrees none = by_test (d == c) refl (same_where ds cs)
  where
    by_test : (b : Bool) → (d == c) ≡ b → ((comparison_after ds true cs).1 ≡ true
        → (comparison_after ds true cs).0 ≡ [] → same_text ds cs ≡ true) → same_text (d ∷ ds) (c ∷ cs) ≡ true
    by_test true e later =
        let step = same_char d c ds cs (eqb-true d c e) in
        rw e (later (ap (λ (s : List ℕ × Bool). s.1) (sym step) ∙ agrees) (ap (λ (s : List ℕ × Bool). s.0) (sym step) ∙ none))
    by_test false e later = absurd (false≢true (ap (λ (s : List ℕ × Bool). s.1) (sym (other_char d c ds cs e)) ∙ agrees))

-- equal texts agree to the end
pub agrees_where_same : (text written : List ℕ) → same_text text written ≡ true → comparison_after text true written ≡ ([], true)
agrees_where_same [] [] e = refl
agrees_where_same [] (c ∷ cs) e = absurd (false≢true e)
agrees_where_same (d ∷ ds) [] e = absurd (false≢true e)
agrees_where_same (d ∷ ds) (c ∷ cs) e =
    let both = and_parts (d == c) (same_text ds cs) e in
    same_char d c ds cs (eqb-true d c both.0) ∙ agrees_where_same ds cs both.1

-- ---- bytes

-- no character is there
pub at_the_end : (bytes : List ℕ) (at : ℕ) → (at < length bytes → ⊥) → rest bytes at ≡ []
at_the_end bytes at none = elim (cases_lt at (length bytes)) [ inl l ↦ absurd (none l) | inr l ↦ rest-end bytes at l ]

-- a text in bytes that begins with another
pub strips : (bytes piece : List ℕ) (n : ℕ) → IsUtf8 piece → bytes ≡ piece ++ drop n bytes
    → comparison_after (chars bytes) true (chars piece) ≡ (chars (drop n bytes), true)
strips bytes piece n utf8 e =
    let parts : chars bytes ≡ chars piece ++ chars (drop n bytes) = ap chars e ∙ chars-append piece (drop n bytes) utf8 in
    rw parts (prefix (chars piece) (chars (drop n bytes)))

-- a text in bytes that does not
pub no_prefix : (bytes piece : List ℕ) → IsUtf8 bytes → IsUtf8 piece → ((after : List ℕ) → bytes ≢ piece ++ after)
    → (comparison_after (chars bytes) true (chars piece)).1 ≡ false
no_prefix bytes piece utf8 piece_utf8 lacks = by_test (comparison_after (chars bytes) true (chars piece)) refl
  where
    by_test : (s : List ℕ × Bool) → comparison_after (chars bytes) true (chars piece) ≡ s → s.1 ≡ false
    by_test (left, false) e = refl
    by_test (left, true) e =
        let parts : chars bytes ≡ chars piece ++ left = is_prefix (chars bytes) (chars piece) left e in
        absurd (lacks (encodes left) (sym (encodes-chars bytes utf8) ∙ ap encodes parts
        ∙ encodes-append (chars piece) left ∙ ap (λ xs. xs ++ encodes left) (encodes-chars piece piece_utf8)))

-- ---- the line on which a text first differs

-- a comparison that began with the whole text
pub from_start : {s : List ℕ × Bool} {text rest : List ℕ} {agrees : Bool} (written : List ℕ) → rest ≡ text → agrees ≡ true
    → s ≡ comparison_after (chars rest) agrees written → s ≡ comparison_after (chars text) true written
from_start written same held e = e ∙ ap₂ (λ r b. comparison_after (chars r) b written) same held

-- a text that agrees to the end is in the style
pub in_style : (text written left : List ℕ) (agrees : Bool) → (left, agrees) ≡ comparison_after text true written
    → agrees ≡ true → left ≡ [] → style_line text written ≡ None
in_style text written left agrees e held none =
    let same = same_where text written (ap (λ (s : List ℕ × Bool). s.1) (sym e) ∙ held) (ap (λ (s : List ℕ × Bool). s.0) (sym e) ∙ none) in
    rw same refl

-- any other isn't
pub not_in_style : (text written left : List ℕ) (agrees : Bool) → (left, agrees) ≡ comparison_after text true written
    → (agrees ≡ true → left ≡ [] → ⊥)
    → style_line text written ≡ Some (suc (breaks (common text written)))
not_in_style text written left agrees e differs = elim (cases_Bool (same_text text written)) [
  | inl same ↦ (let all = agrees_where_same text written same in
      absurd (differs (ap (λ (s : List ℕ × Bool). s.1) (e ∙ all)) (ap (λ (s : List ℕ × Bool). s.0) (e ∙ all))))
  | inr other ↦ rw other refl
]

-- ---- a text that ends with another

-- the bytes are some characters and then the rest
pub record EndsWith (bytes prefix rest : List ℕ) : Type 0 where
  pub cut : IsCharBoundary bytes (length bytes - length rest)
  pub within : length rest ≤ length bytes
  pub before : chars (take (length bytes - length rest) bytes) ≡ prefix

-- bytes with these characters are so
pub ends_with : (bytes prefix rest : List ℕ) → IsUtf8 bytes → IsUtf8 rest → chars bytes ≡ prefix ++ chars rest → EndsWith bytes prefix rest
ends_with bytes prefix rest utf8 rest_utf8 e =
    let parts : bytes ≡ encodes prefix ++ rest = sym (encodes-chars bytes utf8) ∙ ap encodes e
    ∙ encodes-append prefix (chars rest) ∙ ap (λ x. encodes prefix ++ x) (encodes-chars rest rest_utf8) in
    let size : length bytes - length rest ≡ length (encodes prefix) = omega (arith, ap length parts, length-append (encodes prefix) rest) in
    let boundary : IsCharBoundary bytes (length bytes - length rest) =
    subst (λ n. IsCharBoundary bytes n) (sym size) (IsCharBoundary-at_seam bytes (encodes prefix) rest parts rest_utf8) in
    let taken : take (length bytes - length rest) bytes ≡ encodes prefix = ap (λ n. take n bytes) size
    ∙ ap (take (length (encodes prefix))) parts ∙ take_at (encodes prefix) rest (length (encodes prefix)) refl in
    let whole : chars (take (length bytes - length rest) bytes) ++ chars rest ≡ prefix ++ chars rest =
    sym (chars-append (take (length bytes - length rest) bytes) rest (IsUtf8-take bytes (length bytes - length rest) utf8 boundary))
    ∙ ap chars (ap (λ x. x ++ rest) taken ∙ sym parts) ∙ e in
    record {
      cut = boundary;
      within = omega (arith, ap length parts, length-append (encodes prefix) rest);
      before = append_cancel_right _ prefix (chars rest) whole;
    }
