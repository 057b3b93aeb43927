-- What is left of a number of bytes, after one text and another.
use Rattle.std.proofs.Common.{◌≡◌, ℕ, ◌+◌, ◌-◌, ◌<◌, ◌≤◌, ◌⊎◌, inl, inr, nat_le, List, [], ◌∷◌, ◌++◌, Option, Some, None, refl, sym, ap}
use Rattle.std.proofs.{Common.{◌∙◌, arith}, lemmas.Bool.{cases_lt, le-leb, lt-leb, Decides.nat_tests}}
use Rattle.yaml_writer.specs.{Prelude.byte_len, Budget.left_after}

pub left_after-none : (left : Option ℕ) → left ≡ left_after left 0
left_after-none None = refl
left_after-none (Some left) = grind (arith, nat_tests)

enough : (left m n : ℕ) → m ≤ left → nat_le n (left - m) ≡ nat_le (m + n) left
enough left m n h = grind (arith, nat_tests)

pub left_after-both : (left : Option ℕ) (m n : ℕ) → left_after (left_after left m) n ≡ left_after left (m + n)
left_after-both None m n = refl
left_after-both (Some left) m n = by_cases (cases_lt left m)
  where
    by_cases : (left < m) ⊎ (m ≤ left) → left_after (left_after (Some left) m) n ≡ left_after (Some left) (m + n)
    by_cases (inl short) =
        let shorter : left < m + n = omega arith in
        rw (lt-leb m left short, lt-leb (m + n) left shorter) refl
    by_cases (inr room) =
        let same : left - m - n ≡ left - (m + n) = omega arith in
        rw (le-leb m left room, enough left m n room, same) refl

pub byte_len-append : (xs ys : List ℕ) → byte_len (xs ++ ys) ≡ byte_len xs + byte_len ys
byte_len-append [] ys = omega arith
byte_len-append (x ∷ xs) ys = let after = byte_len-append xs ys in omega (arith, after)

-- a text, and then another
pub left_after-more : (a b c : Option ℕ) (xs ys : List ℕ) → b ≡ left_after a (byte_len xs)
    → c ≡ left_after b (byte_len ys)
    → c ≡ left_after a (byte_len (xs ++ ys))
left_after-more a b c xs ys first second =
    second ∙ ap (λ left. left_after left (byte_len ys)) first ∙ left_after-both a (byte_len xs) (byte_len ys)
    ∙ ap (left_after a) (sym (byte_len-append xs ys))
