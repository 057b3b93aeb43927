-- The token of an index leads to the element at it.
use Rattle.std.proofs.Common.{◌≡◌, ℕ, zero, suc, ◌+◌, ◌-◌, ◌*◌, ◌/◌, ◌%◌, ◌^◌, ◌<◌, ◌≤◌, Bool, true, false, ◌&&◌, ◌==◌, nat_lt}
use Rattle.std.proofs.Common.{if◌then◌else◌, List, [], ◌∷◌, ◌++◌, length, length-append, get_or, decimal, refl, ap, ap₂, ◌∙◌, arith}
use Rattle.tree_diff.proofs.Prelude.{get_or_append_left, decimal_is_IsNumeral, decimal_digit, first_decimal, digits_value_push}
use Rattle.tree_diff.proofs.Prelude.{digit_value_digit, digit_from_value, digit_value, list_all, AllDigits, digits_value}
use Rattle.tree_diff.proofs.Prelude.{digits_value_after, nat_tests, number, after_last, no_index, digit, number_after, index_of, same_text}
use Rattle.tree_diff.{proofs.Prelude.is_empty, specs.Differences.{digits_within, index_token}}

digit-true : (c : ℕ) → digit_value c < 10 → digit c ≡ true
digit-true c small = let k = digit_from_value c small in grind (arith, nat_tests)

all_digits : (cs : List ℕ) → AllDigits 10 cs → list_all digit cs ≡ true
all_digits [] are = refl
all_digits (c ∷ cs) are = ap₂ ◌&&◌ (digit-true c are.0) (all_digits cs are.1)

number_after-value : (cs : List ℕ) (n : ℕ) → AllDigits 10 cs → number_after n cs ≡ digits_value_after 10 n cs
number_after-value [] n are = refl
number_after-value (c ∷ cs) n are =
    let k = digit_from_value c are.0 in
    let e : 10 * n + (c - 48) ≡ n * 10 + digit_value c = omega (arith, digit_value_digit c k) in
    ap (λ m. number_after m cs) e ∙ number_after-value cs (n * 10 + digit_value c) are.1

chosen : (minus zeroes alone digits : Bool) (n m : ℕ) → minus ≡ false → zeroes ≡ false → digits ≡ true → n ≡ m
    → (if minus then after_last else (if (if zeroes then alone else digits) then number n else no_index)) ≡ number m
chosen true zeroes alone digits n m p q r e = cc
chosen false true alone digits n m p q r e = cc
chosen false false alone true n m p q r e = ap number e
chosen false false alone false n m p q r e = cc

-- digits without a leading zero are an index
number-digits : (cs : List ℕ) → AllDigits 10 cs → 48 < get_or cs 0 0 → index_of cs ≡ number (digits_value 10 cs)
number-digits [] are above = absurd (omega arith)
number-digits (c ∷ cs) are above =
    let k = digit_from_value c are.0 in
    let no_minus : (c == 45) ≡ false = grind (arith, nat_tests) in
    let no_zero : (c == 48) ≡ false = grind (arith, nat_tests) in
    chosen ((c == 45) && same_text cs []) (c == 48) (is_empty cs) (list_all digit (c ∷ cs)) (number_after 0 (c ∷ cs))
    (digits_value 10 (c ∷ cs))
    (ap (λ b. b && same_text cs []) no_minus) no_zero (all_digits (c ∷ cs) are) (number_after-value (c ∷ cs) 0 are)

-- the digits are those of a number, with no leading zero
record Spells (n : ℕ) (ds : List ℕ) : Type 0 where
  some : 0 < length ds
  all : AllDigits 10 ds
  first : 0 < n → 48 < get_or ds 0 0
  value : digits_value 10 ds ≡ n

AllDigits-push : (ds : List ℕ) (d : ℕ) → AllDigits 10 ds → digit_value d < 10 → AllDigits 10 (ds ++ d ∷ [])
AllDigits-push [] d are more = (more, tt)
AllDigits-push (c ∷ ds) d are more = (are.0, AllDigits-push ds d are.1 more)

decimal-Spells : (n : ℕ) → n < 2 ^ 64 → Spells n (decimal n)
decimal-Spells n small =
    let is = decimal_is_IsNumeral n small in
    record { some = is.0.0; all = is.0.1; first = λ above. first_decimal n above small; value = is.1 }

push-Spells : (n : ℕ) (ds : List ℕ) → 0 < n / 10 → Spells (n / 10) ds → Spells n (ds ++ (48 + n % 10) ∷ [])
push-Spells n ds above is =
    let d : ℕ = 48 + n % 10 in
    let value : digit_value d ≡ n % 10 = omega (arith, digit_value_digit d (omega arith, omega arith)) in
    record {
      some = omega (arith, length-append ds (d ∷ []));
      all = AllDigits-push ds d is.all (omega arith);
      first = λ _. let s = is.some in omega (arith, get_or_append_left ds (d ∷ []) 0 0 s, is.first above);
      value = digits_value_push 10 ds d ∙ omega (arith, is.value);
    }

digits_within-Spells : (most n : ℕ) → n < 2 ^ 64 + most → Spells n (digits_within most n)
digits_within-Spells zero n small = decimal-Spells n (omega arith)
digits_within-Spells (suc most) n small =
    let P : Bool → Type 0 = λ b. nat_lt n (2 ^ 64) ≡ b
    → Spells n (if b then decimal n else digits_within most (n / 10) ++ (48 + n % 10) ∷ []) in
    (elim (nat_lt n (2 ^ 64)) as P [
      | true ↦ λ e. decimal-Spells n (grind (arith, nat_tests))
      | false ↦ λ e.
          let large : 2 ^ 64 ≤ n = grind (arith, nat_tests) in
          push-Spells n (digits_within most (n / 10)) (omega arith) (digits_within-Spells most (n / 10) (omega arith))
    ]) refl

-- the token of an index is read as it
pub index_of-index_token : (n : ℕ) → index_of (index_token n) ≡ number n
unfolding index_token
index_of-index_token zero = ap index_of (decimal_digit 0 (omega arith))
index_of-index_token (suc n) =
    let is = digits_within-Spells (suc n) (suc n) (omega arith) in
    number-digits (digits_within (suc n) (suc n)) is.all (is.first (omega arith)) ∙ ap number is.value

-- the token of an index of 64 bits
pub index_token-decimal : (n : ℕ) → n < 2 ^ 64 → index_token n ≡ decimal n
unfolding index_token
index_token-decimal zero small = refl
index_token-decimal (suc n) small =
    let lt : nat_lt (suc n) (2 ^ 64) ≡ true = grind (arith, nat_tests) in
    ap (λ b. if b then decimal (suc n) else digits_within n (suc n / 10) ++ (48 + suc n % 10) ∷ []) lt
