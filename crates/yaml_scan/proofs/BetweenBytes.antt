-- What is between two places: breaks, and how many characters.
use Rattle.std.proofs.Common.{◌≡◌, ℕ, ◌+◌, ◌-◌, ◌*◌, ◌<◌, ◌≤◌, Bool, true, false, List, [], ◌∷◌, ◌++◌, refl, ap, sym, ◌∙◌, arith, length}
use Rattle.std.proofs.Common.{get_or, length-append, length-take, length-drop, drop, slice_range, inl, inr}
use Rattle.std.specs.Prelude.{not, ◌&&◌, nat_le, nat_lt, ◌/◌}
use Rattle.yaml_scan.proofs.Prelude.{IsUtf8, IsCharBoundary, cases_lt, le-leb, lt-leb, lt-ltb, not-false, not-true, nat_tests}
use Rattle.yaml_scan.proofs.Prelude.{length-encode, length-le-encodes, len_utf8_bounds, IsCharBoundary-before_ascii, no_break, line_break}
use Rattle.yaml_scan.proofs.Prelude.{between, between-append, between-ascii, encodes-between, blind-no_break, test-between, list_all}
use lib.Utf8.{encodes, encode}
use Rattle.yaml_scan.specs.{Classes.ArePassed, ScanPlaces.unbroken_between}

-- ---- breaks

broken : (xs ys : List ℕ) (x : ℕ) → line_break x ≡ true → list_all no_break (xs ++ x ∷ ys) ≡ false
broken [] ys x h = rw h refl
broken (z ∷ zs) ys x h = ap (λ b. no_break z && b) (broken zs ys x h) ∙ and_false (no_break z)
  where
    and_false : (b : Bool) → b && false ≡ false
    and_false true = refl
    and_false false = refl

-- a byte of a break between two places is a break among the characters there
pub break_between : (bs : List ℕ) (i j k : ℕ) → IsUtf8 bs → IsCharBoundary bs i → IsCharBoundary bs j → i ≤ k → k < j
    → line_break (get_or bs k 0) ≡ true
    → true ≡ not (unbroken_between bs i j)
break_between bs i j k u b d l m h =
    let low : get_or bs k 0 < 128 = grind (arith, nat_tests) in
    let within : k < length bs = omega (arith, d.0) in
    let here = IsCharBoundary-before_ascii bs k within low in
    let split : between bs i j ≡ between bs i k ++ get_or bs k 0 ∷ between bs (k + 1) j =
    between-append bs i k j u l (omega arith) b here d ∙ ap (λ t. between bs i k ++ t) (between-ascii bs k j u m d low) in
    sym (ap (λ t. not (list_all no_break t)) split ∙ ap not (broken (between bs i k) (between bs (k + 1) j) (get_or bs k 0) h))

-- without such a byte there is no break among them
pub no_break_between : (bs : List ℕ) (i j : ℕ) → IsUtf8 bs → IsCharBoundary bs i → IsCharBoundary bs j → i ≤ j
    → ((k : ℕ) → i ≤ k → k < j → line_break (get_or bs k 0) ≡ false)
    → false ≡ not (unbroken_between bs i j)
no_break_between bs i j u b d l h =
    sym (ap not (test-between no_break bs i j blind-no_break u l b d (λ k from to. ap not (h k from to))))

-- a byte that is not no break is one
pub is_line_break : (x : ℕ) → no_break x ≡ false → line_break x ≡ true
is_line_break x h = not-false (line_break x) h

-- whether the first byte of a break is before the second place
pub break_before : (bs : List ℕ) (i j end : ℕ) → IsUtf8 bs → IsCharBoundary bs i → IsCharBoundary bs j → i ≤ j
    → ArePassed no_break bs i end → (end < j → line_break (get_or bs end 0) ≡ true)
    → nat_lt end j ≡ not (unbroken_between bs i j)
break_before bs i j end u b d l h stop = elim (cases_lt end j) [
  | inl before ↦ lt-ltb end j before ∙ break_between bs i j end u b d h.above before (stop before)
  | inr after ↦ not_before end j after ∙ no_break_between bs i j u b d l
      (λ k from to. not-true (line_break (get_or bs k 0)) (h.passes k from (omega arith)))
]
  where
    not_before : (m n : ℕ) → n ≤ m → nat_lt m n ≡ false
    not_before m n l = grind (arith, nat_tests)

-- ---- lengths

encodes_short : (cs : List ℕ) → length (encodes cs) ≤ 4 * length cs
encodes_short [] = omega arith
encodes_short (c ∷ cs) = omega (arith, length-append (encode c) (encodes cs), length-encode c, (len_utf8_bounds c).1, encodes_short cs)

-- how many characters so many bytes may be
pub record FitsBytes (bs : List ℕ) (i j : ℕ) : Type 0 where
  pub at_most : length (between bs i j) ≤ j - i
  pub at_least : j - i ≤ 4 * length (between bs i j)

-- the characters between two places are at most as many as their bytes, and at least a quarter of them
pub fits_bytes : (bs : List ℕ) (i j : ℕ) → IsUtf8 bs → i ≤ j → IsCharBoundary bs i → IsCharBoundary bs j → FitsBytes bs i j
fits_bytes bs i j u l b d =
    let whole = encodes-between bs i j u l b d in
    let size : length (slice_range bs i j) ≡ j - i = length_range bs i j l d.0 in
    record {
      at_most = omega (arith, length-le-encodes (between bs i j), ap (λ (x : List ℕ). length x) whole);
      at_least = omega (arith, encodes_short (between bs i j), ap (λ (x : List ℕ). length x) whole);
    }
  where
    length_range : (bs : List ℕ) (i j : ℕ) → i ≤ j → j ≤ length bs → length (slice_range bs i j) ≡ j - i
    length_range bs i j l m = omega (arith, length-take (j - i) (drop i bs), length-drop i bs)

-- few bytes are few characters, so that nothing has to be counted
pub few_bytes : (n m : ℕ) → n ≤ m → true ≡ nat_le n m
few_bytes n m l = sym (le-leb n m l)

-- many bytes are many characters, so that nothing has to be counted
pub many_bytes : (n m bytes : ℕ) → bytes ≤ 4 * n → m < bytes / 4 → false ≡ nat_le n m
many_bytes n m bytes l h = sym (lt-leb n m (more n m bytes l h))
  where
    more : (n m bytes : ℕ) → bytes ≤ 4 * n → m < bytes / 4 → m < n
    more n m bytes l h = omega arith
