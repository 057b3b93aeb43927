-- The number that a text is, by what std's reading of it says.
use Rattle.std.proofs.Common.{◌≡◌, ℕ, ◌<◌, Bool, true, false, List, [], ◌∷◌, length, refl, sym, ap, ◌∙◌, arith}
use Rattle.std.{proofs.lemmas.Bool.Decides.nat_tests, specs.{Prelude.{Some, None, ◌==◌, ◌&&◌, nat_lt, not, if◌then◌else◌}, List.list_all}}
use Rattle.std.specs.{Char.digit_value, Str.Parse.{AllDigits, IsNumeral, digits_value}}
use Rattle.command_line.specs.Numbers.{is_numeral, number_below}

-- whether all are digits
all_digits : (digits : List ℕ) → AllDigits 10 digits → list_all (λ c. nat_lt (digit_value c) 10) digits ≡ true
all_digits [] all = refl
all_digits (c ∷ cs) all =
    let first : nat_lt (digit_value c) 10 ≡ true = grind (arith, nat_tests, all.0) in
    ap (λ b. b && list_all (λ c. nat_lt (digit_value c) 10) cs) first ∙ all_digits cs all.1

both : (a b : Bool) → (a && b) ≡ true → (a ≡ true) × (b ≡ true)
both true b all = (refl, all)
both false b all = cc all

AllDigits-all : (digits : List ℕ) → list_all (λ c. nat_lt (digit_value c) 10) digits ≡ true → AllDigits 10 digits
AllDigits-all [] all = tt
AllDigits-all (c ∷ cs) all =
    let parts = both (nat_lt (digit_value c) 10) (list_all (λ c. nat_lt (digit_value c) 10) cs) all in
    let first : digit_value c < 10 = grind (arith, nat_tests, parts.0) in
    (first, AllDigits-all cs parts.1)

-- it is a number
pub read_as : (most : ℕ) (digits : List ℕ) (number : ℕ) → IsNumeral 10 digits × (digits_value 10 digits < most)
    → number ≡ digits_value 10 digits → Some number ≡ number_below most digits
read_as most digits number is same =
    let some : not (length digits == 0) ≡ true = grind (arith, nat_tests, is.0.0) in
    let all : list_all (λ c. nat_lt (digit_value c) 10) digits ≡ true = all_digits digits is.0.1 in
    let small : nat_lt (digits_value 10 digits) most ≡ true = grind (arith, nat_tests, is.1) in
    ap Some same ∙ sym (rw (some, all, small) refl)

-- it is none
pub read_as_none : (most : ℕ) (digits : List ℕ) → (IsNumeral 10 digits × (digits_value 10 digits < most) → ⊥)
    → None ≡ number_below most digits
read_as_none most digits fails = go (is_numeral digits && nat_lt (digits_value 10 digits) most) refl
  where
    go : (b : Bool) → (is_numeral digits && nat_lt (digits_value 10 digits) most) ≡ b → None ≡ number_below most digits
    go false is = sym (ap (λ b. if b then Some (digits_value 10 digits) else None) is)
    go true is =
        let some : 0 < length digits = grind (arith, nat_tests, is) in
        let all : list_all (λ c. nat_lt (digit_value c) 10) digits ≡ true = grind (arith, nat_tests, is) in
        let small : digits_value 10 digits < most = grind (arith, nat_tests, is) in
        absurd (fails ((some, AllDigits-all digits all), small))
