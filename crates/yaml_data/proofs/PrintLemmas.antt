-- Keys whose prints differ, which they do if they ascend in some order, differ.
use Rattle.std.proofs.Common.{◌≡◌, ℕ, zero, suc, ◌+◌, ◌<◌, ◌≤◌, Bool, true, false, cond, not, ◌&&◌, ◌||◌, ◌==◌, List, [], ◌∷◌, length}
use Rattle.std.proofs.Common.{get_or, sum_by, IsPermutation, IsSorted, nat_cmp, IsUtf8, refl, sym, ap, ap₂, ◌∙◌, subst, le_of_eq, lt_trans}
use Rattle.std.proofs.{Common.{zero-add, true≢false, arith}, lemmas.{Bool.{eq-eqb, eqb-true}, List.Sorted.sum_by-IsPermutation}}
use Rattle.std.proofs.lemmas.List.{Sorted.IsNonDecreasingBy-from_sort, Sums.sum_by-cons}
use Rattle.yaml_data.proofs.{Prelude.{nat_tests, AllAdjacentBelow, chars, has_key}, CharacterLemmas.same_text-Decides, KeyLemmas.same_bytes}
use Rattle.yaml_data.{proofs.TextLemmas.IsUtf8-text_bytes, specs.{Keys.{key_members, keys_differ}, TextBytes.text_bytes}}
use Rattle.{yaml_data.specs.{declared.text.Text.Text, Prints.{print_of, key_prints, AreDistinct}}, yaml_grammar.specs.Texts.same_text}

-- 1 for the print itself, and 0 for another
abbrev one_for : ℕ → ℕ → ℕ
one_for p q = cond (p == q) 1 0

-- how often a print is among prints
abbrev count : ℕ → List ℕ → ℕ
count p qs = sum_by (one_for p) qs

abbrev pub IsAscending : List ℕ → Type 0
IsAscending qs = AllAdjacentBelow (λ a b. a < b) qs (length qs)

less_or_same : (a b : ℕ) (same : Bool) → (a == b) ≡ same → a ≤ b → (a ≡ b → ⊥) → a < b
less_or_same a b true e le other = absurd (other (eqb-true a b e))
less_or_same a b false e le other = grind (arith, nat_tests)

-- ---- a print is at most once among prints that ascend

ascending-tail : (q : ℕ) (qs : List ℕ) → IsAscending (q ∷ qs) → IsAscending qs
ascending-tail q qs up = λ k d within.
    let next : suc k + 1 ≡ suc (k + 1) = omega arith in
    subst (λ n. get_or qs k d < get_or (q ∷ qs) n d) next (up (suc k) d (omega arith))

ascending-first : (q r : ℕ) (qs : List ℕ) → IsAscending (q ∷ r ∷ qs) → q < r
ascending-first q r qs up = up 0 0 (omega arith)

one_for-other : (p q : ℕ) (same : Bool) → (p == q) ≡ same → p < q → one_for p q ≡ 0
one_for-other p q true e less = absurd (omega (arith, eqb-true p q e))
one_for-other p q false e less = ap (λ b. cond b 1 0) e

-- a print below the first is not among them
none_below : (p q : ℕ) (qs : List ℕ) → p < q → IsAscending (q ∷ qs) → count p (q ∷ qs) ≡ 0
none_below p q [] less up =
    sum_by-cons (one_for p) q [] ∙ ap (λ n. n + 0) (one_for-other p q (p == q) refl less)
none_below p q (r ∷ rs) less up =
    let rest = none_below p r rs (lt_trans less (ascending-first q r rs up)) (ascending-tail q (r ∷ rs) up) in
    sum_by-cons (one_for p) q (r ∷ rs) ∙ ap₂ (λ a b. a + b) (one_for-other p q (p == q) refl less) rest

-- nor is the first among those after it
none_after : (q : ℕ) (qs : List ℕ) → IsAscending (q ∷ qs) → count q qs ≡ 0
none_after q [] up = refl
none_after q (r ∷ rs) up = none_below q r rs (ascending-first q r rs up) (ascending-tail q (r ∷ rs) up)

once_more : (p q : ℕ) (qs : List ℕ) (same : Bool) → (p == q) ≡ same → IsAscending (q ∷ qs) → count p qs ≤ 1 → count p (q ∷ qs) ≤ 1
once_more p q qs true e up rest =
    let none = ap (λ x. count x qs) (eqb-true p q e) ∙ none_after q qs up in
    le_of_eq (sum_by-cons (one_for p) q qs ∙ ap₂ (λ a b. a + b) (ap (λ b. cond b 1 0) e) none)
once_more p q qs false e up rest =
    subst (λ n. n ≤ 1) (sym (sum_by-cons (one_for p) q qs ∙ ap (λ b. cond b 1 0 + count p qs) e ∙ zero-add (count p qs))) rest

at_most_once : (p : ℕ) (qs : List ℕ) → IsAscending qs → count p qs ≤ 1
at_most_once p [] up = omega arith
at_most_once p (q ∷ qs) up = once_more p q qs (p == q) refl up (at_most_once p qs (ascending-tail q qs up))

-- ---- equal keys have a print twice

held_here : {A : Type 0} (key : List ℕ) (m : Text × A) (ms : List (Text × A)) (same : Bool)
    → same_text (chars key) (chars (text_bytes m.0)) ≡ same
    → IsUtf8 key → has_key (chars key) (key_members (m ∷ ms)) ≡ true
    → (has_key (chars key) (key_members ms) ≡ true → 1 ≤ count (print_of key) (key_prints ms))
    → 1 ≤ count (print_of key) (key_prints (m ∷ ms))
held_here key m ms true e utf8 held later =
    let same = same_bytes key (text_bytes m.0) utf8 (IsUtf8-text_bytes m.0) ((same_text-Decides _ _).0 e) in
    let one = ap {B = ℕ} (λ b. cond b 1 0) (eq-eqb _ _ (ap print_of same)) in
    let all = sum_by-cons (one_for (print_of key)) (print_of (text_bytes m.0)) (key_prints ms) in
    omega (arith, one, all)
held_here key m ms false e utf8 held later =
    let rest = later (sym (ap (λ b. b || has_key (chars key) (key_members ms)) e) ∙ held) in
    let all = sum_by-cons (one_for (print_of key)) (print_of (text_bytes m.0)) (key_prints ms) in
    omega (arith, rest, all)

-- the print of a key that is among the pairs is among their prints
held_once : {A : Type 0} (key : List ℕ) (ms : List (Text × A)) → IsUtf8 key
    → has_key (chars key) (key_members ms) ≡ true → 1 ≤ count (print_of key) (key_prints ms)
held_once key [] utf8 held = absurd (true≢false (sym held))
held_once key (m ∷ ms) utf8 held =
    held_here key m ms (same_text (chars key) (chars (text_bytes m.0))) refl utf8 held (held_once key ms utf8)

distinct-tail : (q : ℕ) (qs : List ℕ) → AreDistinct (q ∷ qs) → AreDistinct qs
distinct-tail q qs once = λ p. omega (arith, sum_by-cons (one_for p) q qs, once p)

differ_more : {A : Type 0} (m : Text × A) (ms : List (Text × A)) (h : Bool) → has_key (chars (text_bytes m.0)) (key_members ms) ≡ h
    → count (print_of (text_bytes m.0)) (key_prints (m ∷ ms)) ≤ 1 → keys_differ (key_members ms) ≡ true
    → keys_differ (key_members (m ∷ ms)) ≡ true
differ_more m ms true e once rest =
    let p = print_of (text_bytes m.0) in
    let one = ap {B = ℕ} (λ b. cond b 1 0) (eq-eqb p p refl) in
    let all = sum_by-cons (one_for p) p (key_prints ms) in
    absurd (omega (arith, one, all, once, held_once (text_bytes m.0) ms (IsUtf8-text_bytes m.0) e))
differ_more m ms false e once rest = ap₂ (λ a b. not a && b) e rest

-- keys differ if their prints do
pub differ_by_prints : {A : Type 0} (ms : List (Text × A)) → AreDistinct (key_prints ms) → keys_differ (key_members ms) ≡ true
differ_by_prints [] once = refl
differ_by_prints (m ∷ ms) once =
    let fewer = distinct-tail (print_of (text_bytes m.0)) (key_prints ms) once in
    differ_more m ms (has_key (chars (text_bytes m.0)) (key_members ms)) refl (once (print_of (text_bytes m.0))) (differ_by_prints ms fewer)

-- ---- sorted prints ascend exactly if they differ

-- prints differ if they ascend in some order
pub distinct-from_ascending : (ps qs : List ℕ) → IsPermutation ps qs → IsAscending qs → AreDistinct ps
distinct-from_ascending ps qs moved up =
    λ p. subst (λ n. n ≤ 1) (sum_by-IsPermutation (one_for p) ps qs moved) (at_most_once p qs up)

-- no two neighbours are equal where all differ
no_same_neighbours : (qs : List ℕ) (k d : ℕ) → k + 1 < length qs → get_or qs k d ≡ get_or qs (k + 1) d → AreDistinct qs → ⊥
no_same_neighbours [] k d within e once = omega (arith, within)
no_same_neighbours (q ∷ []) k d within e once = omega (arith, within)
no_same_neighbours (q ∷ r ∷ rs) zero d within e once =
    let one = ap {B = ℕ} (λ b. cond b 1 0) (eq-eqb q q refl) in
    let next = ap {B = ℕ} (λ b. cond b 1 0) (eq-eqb q r e) in
    omega (arith, one, next, sum_by-cons (one_for q) q (r ∷ rs), sum_by-cons (one_for q) r rs, once q)
no_same_neighbours (q ∷ r ∷ rs) (suc k) d within e once =
    let next : suc k + 1 ≡ suc (k + 1) = omega arith in
    no_same_neighbours (r ∷ rs) k d (omega arith) (e ∙ ap (λ n. get_or (q ∷ r ∷ rs) n d) next) (distinct-tail q (r ∷ rs) once)

-- sorted prints ascend if they differ in some order
pub ascending-from_distinct : (ps qs : List ℕ) → IsPermutation ps qs → IsSorted nat_cmp qs → AreDistinct ps → IsAscending qs
ascending-from_distinct ps qs moved sorted once =
    let distinct : AreDistinct qs =
    λ p. subst (λ n. n ≤ 1) (sym (sum_by-IsPermutation (one_for p) ps qs moved)) (once p) in
    λ k d within.
    let rises = IsNonDecreasingBy-from_sort (λ n. n) qs sorted k (k + 1) d (omega arith) within in
    less_or_same (get_or qs k d) (get_or qs (k + 1) d) (get_or qs k d == get_or qs (k + 1) d) refl rises
    (λ e. no_same_neighbours qs k d within e distinct)
