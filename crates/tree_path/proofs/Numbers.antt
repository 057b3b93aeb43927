-- Indices read digit by digit: a number so far, and what the digits after it make of it.
use Rattle.std.proofs.Common.{◌≡◌, ℕ, zero, suc, ◌+◌, ◌-◌, ◌*◌, ◌<◌, Bool, true, false, cond, ◌&&◌, ◌==◌, List, [], ◌∷◌, length, get_or}
use Rattle.std.{proofs.Common.{drop, Option, Some, None, option_map, refl, sym, ap, subst, ◌∙◌, arith}, specs.Char.digit_value}
use Rattle.tree_path.{proofs.Prelude.{option_and_then, eqb-true, nat_tests, at_drop_more, list_all, is_empty}, specs.Paths.digit}
use Rattle.tree_path.specs.{Paths.number_after, Steps.{number_of, as_usize}}

-- the number with one more digit; nothing comes after a leading zero
abbrev pub digit_after : Option ℕ → ℕ → Option ℕ
digit_after None d = Some d
digit_after (Some zero) d = None
digit_after (Some (suc n)) d = Some (10 * suc n + d)

-- the number after further digits
abbrev pub read_on : Option ℕ → List ℕ → Option ℕ
read_on so_far [] = so_far
read_on so_far (c ∷ cs) = cond (digit c) (option_and_then (λ n. read_on (Some n) cs) (digit_after so_far (c - 48))) None

read_on-Some : (cs : List ℕ) (n : ℕ) → 0 < n → read_on (Some n) cs ≡ cond (list_all digit cs) (Some (number_after n cs)) None
read_on-Some [] n positive = refl
read_on-Some (c ∷ cs) zero positive = absurd (omega arith)
read_on-Some (c ∷ cs) (suc n) positive =
    let P : Bool → Type 0 = λ b. cond b (read_on (Some (10 * suc n + (c - 48))) cs) None
    ≡ cond (b && list_all digit cs) (Some (number_after (10 * suc n + (c - 48)) cs)) None in
    elim (digit c) as P [ true ↦ read_on-Some cs (10 * suc n + (c - 48)) (omega arith) | false ↦ refl ]

-- after a leading zero is nothing
read_on-zero : (cs : List ℕ) → read_on (Some 0) cs ≡ cond (is_empty cs) (Some 0) None
read_on-zero [] = refl
read_on-zero (c ∷ cs) =
    let is_none : Bool → Type 0 = λ b. cond {A = Option ℕ} b None None ≡ cond (is_empty (c ∷ cs)) (Some 0) None in
    elim (digit c) as is_none [ true ↦ refl | false ↦ refl ]

digit-above : (c : ℕ) → digit c ≡ true → (c == 48) ≡ false → 0 < c - 48
digit-above c is other = grind (arith, nat_tests)

read_on-0 : (cs : List ℕ) → read_on (Some 0) cs ≡ cond (is_empty cs) (Some (number_after 0 cs)) None
read_on-0 [] = refl
read_on-0 (c ∷ cs) = read_on-zero (c ∷ cs)

-- before the first digit nothing is read
pub read_on-None : (cs : List ℕ) → read_on None cs ≡ number_of cs
read_on-None [] = refl
read_on-None (c ∷ cs) =
    let value : Bool → Option ℕ = λ number. cond number (Some (number_after (10 * 0 + (c - 48)) cs)) None in
    let P : Bool → Type 0 = λ z. (c == 48) ≡ z → cond (digit c) (read_on (Some (c - 48)) cs) None
    ≡ value (cond z (is_empty cs) (digit c && list_all digit cs)) in
    let Q : Bool → Type 0 = λ d. digit c ≡ d → (c == 48) ≡ false
    → cond d (read_on (Some (c - 48)) cs) None ≡ value (d && list_all digit cs) in
    (elim (c == 48) as P [
      | true ↦ λ e. subst (λ d. cond (digit d) (read_on (Some (d - 48)) cs) None
          ≡ cond (is_empty cs) (Some (number_after (10 * 0 + (d - 48)) cs)) None)
          (sym (eqb-true c 48 e)) (read_on-0 cs)
      | false ↦ (elim (digit c) as Q [
        | true ↦ λ d e. read_on-Some cs (c - 48) (digit-above c d e)
            ∙ ap (λ n. cond (list_all digit cs) (Some (number_after n cs)) None) (omega arith)
        | false ↦ λ d e. refl
      ]) refl
    ]) refl

-- a digit, by its value
pub digit-true : (c : ℕ) → digit_value c < 10 → (digit c ≡ true) × (digit_value c ≡ c - 48)
digit-true c small = (grind (arith, nat_tests), grind (arith, nat_tests))

-- a character without such a value is no digit
pub digit-false : (c : ℕ) → (digit_value c < 10 → ⊥) → digit c ≡ false
digit-false c large = grind (arith, nat_tests)

-- ---- one turn of the loop over the characters

read_on-more : (cs : List ℕ) (n c : ℕ) (so_far : Option ℕ) → (n < length cs) × (c ≡ get_or cs n c)
    → read_on so_far (drop n cs) ≡ cond (digit c)
    (option_and_then (λ m. read_on (Some m) (drop (n + 1) cs)) (digit_after so_far (c - 48))) None
read_on-more cs n c so_far turn =
    at_drop_more (read_on so_far) cs n c turn.0
    ∙ ap (λ d. cond (digit d) (option_and_then (λ m. read_on (Some m) (drop (n + 1) cs)) (digit_after so_far (d - 48))) None) (sym turn.1)

-- another character ends the number
pub read_on-other : (cs : List ℕ) (n c : ℕ) (so_far : Option ℕ) → (n < length cs) × (c ≡ get_or cs n c) → digit c ≡ false
    → read_on so_far (drop n cs) ≡ None
read_on-other cs n c so_far turn is = rw (read_on-more cs n c so_far turn, is)

-- a digit goes on with it
pub read_on-digit : (cs : List ℕ) (n c : ℕ) (so_far : Option ℕ) → (n < length cs) × (c ≡ get_or cs n c) → digit c ≡ true
    → read_on so_far (drop n cs) ≡ option_and_then (λ m. read_on (Some m) (drop (n + 1) cs)) (digit_after so_far (c - 48))
read_on-digit cs n c so_far turn is = rw (read_on-more cs n c so_far turn, is)

-- no digit yet: this one is the number
pub next-None : (cs : List ℕ) (n m c d : ℕ) (so_far target : Option ℕ) → (n < length cs) × (c ≡ get_or cs n c) → m ≡ n + 1
    → (digit c ≡ true) × (d ≡ c - 48) → d < 10 → None ≡ option_map as_usize so_far → read_on so_far (drop n cs) ≡ target
    → (next : Option ℕ) × (read_on next (drop m cs) ≡ target) × (Some d ≡ option_map as_usize next)
next-None cs n m c d None target turn more is small seen before =
    (Some (c - 48), rw more (sym (read_on-digit cs n c None turn is.0) ∙ before), ap Some (omega arith))
next-None cs n m c d (Some k) target turn more is small seen before = cc

-- digits so far, which don't begin with zero
pub next-Some : (cs : List ℕ) (n m c d old new : ℕ) (so_far target : Option ℕ) → (n < length cs) × (c ≡ get_or cs n c) → m ≡ n + 1
    → (digit c ≡ true) × (d ≡ c - 48) → (old ≡ 0 → ⊥) → new ≡ as_usize (as_usize (old * 10) + d)
    → Some old ≡ option_map as_usize so_far → read_on so_far (drop n cs) ≡ target
    → (next : Option ℕ) × (read_on next (drop m cs) ≡ target) × (Some new ≡ option_map as_usize next)
next-Some cs n m c d old new None target turn more is nonzero adds seen before = cc
next-Some cs n m c d old new (Some zero) target turn more is nonzero adds seen before =
    let e : old ≡ 0 = cc in absurd (nonzero e)
next-Some cs n m c d old new (Some (suc k)) target turn more is nonzero adds seen before =
    let e : old ≡ as_usize (suc k) = cc in
    (Some (10 * suc k + (c - 48)), rw more (sym (read_on-digit cs n c (Some (suc k)) turn is.0) ∙ before), ap Some (omega arith))

-- a zero so far: no number has this digit after it
pub next-zero : (cs : List ℕ) (n c : ℕ) (so_far target : Option ℕ) → (n < length cs) × (c ≡ get_or cs n c)
    → digit c ≡ true → Some 0 ≡ option_map as_usize so_far → read_on so_far (drop n cs) ≡ target → None ≡ target
next-zero cs n c None target turn is seen before = cc
next-zero cs n c (Some zero) target turn is seen before = sym (read_on-digit cs n c (Some zero) turn is) ∙ before
next-zero cs n c (Some (suc k)) target turn is seen before =
    let e : 0 ≡ as_usize (suc k) = cc in absurd (omega arith)
