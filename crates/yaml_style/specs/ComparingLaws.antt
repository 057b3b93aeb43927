-- What is written in two pieces is compared, and counted, as one.
use Rattle.std.proofs.Common.{◌≡◌, ℕ, Bool, true, false, ◌==◌, List, [], ◌∷◌, ◌++◌, refl, sym, ap, ◌∙◌, arith}
use Rattle.{yaml_writer.specs.BudgetLaws.byte_len-append, yaml_style.specs.Comparing.{comparison_after, IsCount}}

-- nothing more is compared
pub comparison_after-none : (left : List ℕ) (agrees : Bool) → (left, agrees) ≡ comparison_after left agrees []
comparison_after-none left true = refl
comparison_after-none left false = refl

-- what is written in two pieces is compared as one
pub comparison_after-append : (left : List ℕ) (agrees : Bool) (xs ys : List ℕ)
    → comparison_after left agrees (xs ++ ys)
    ≡ comparison_after (comparison_after left agrees xs).0 (comparison_after left agrees xs).1 ys
comparison_after-append left false xs ys = refl
comparison_after-append left true [] ys = refl
comparison_after-append [] true (x ∷ xs) ys = refl
comparison_after-append (d ∷ ds) true (x ∷ xs) ys = by_test (d == x) refl (comparison_after-append ds true xs ys)
  where
    by_test : (b : Bool) → (d == x) ≡ b
        → comparison_after ds true (xs ++ ys)
        ≡ comparison_after (comparison_after ds true xs).0 (comparison_after ds true xs).1 ys
        → comparison_after (d ∷ ds) true (x ∷ xs ++ ys)
        ≡ comparison_after (comparison_after (d ∷ ds) true (x ∷ xs)).0
        (comparison_after (d ∷ ds) true (x ∷ xs)).1 ys
    by_test true e later = rw e later
    by_test false e later = rw e refl

-- one piece, and then another
pub comparison_after-both : (left : List ℕ) (agrees : Bool) (left2 : List ℕ) (agrees2 : Bool) (last : List ℕ × Bool)
    (xs ys : List ℕ)
    → (left2, agrees2) ≡ comparison_after left agrees xs → last ≡ comparison_after left2 agrees2 ys
    → last ≡ comparison_after left agrees (xs ++ ys)
comparison_after-both left agrees left2 agrees2 last xs ys first second =
    second ∙ ap (λ (s : List ℕ × Bool). comparison_after s.0 s.1 ys) first ∙ sym
    (comparison_after-append left agrees xs ys)

-- nothing more is counted
pub IsCount-none : (n : ℕ) → IsCount n [] n
IsCount-none n = omega arith

-- what is written in two pieces is counted as one
pub IsCount-both : (a b c : ℕ) (xs ys : List ℕ) → IsCount a xs b → IsCount b ys c → IsCount a (xs ++ ys) c
IsCount-both a b c xs ys first second = omega (arith, byte_len-append xs ys, first, second)
