-- What is taken off a text, and how many of its lines are counted.
use Rattle.std.{specs.Prelude.{◌≡◌, ℕ, ◌+◌, List, [], ◌++◌}, proofs.Common.{sym, ap, ◌∙◌, add-zero, add_assoc}}
use Rattle.yaml_styled.specs.Comparing.{GoesOn, goes_on_none, goes_on_both}

-- characters are taken off a text, and so many lines are counted
pub record Took (text : List ℕ) (before : ℕ) (written : List ℕ) (lines : ℕ) (rest : List ℕ) (after : ℕ) : Type 0 where
  pub goes_on : GoesOn text written rest
  pub counted : after ≡ before + lines

-- nothing is taken
pub took_none : (text : List ℕ) (before : ℕ) → Took text before [] 0 text before
took_none text before = record { goes_on = goes_on_none text; counted = sym (add-zero before) }

-- one piece, and then another
pub took_both : {text between rest xs ys : List ℕ} {before middle after m n : ℕ}
    → Took text before xs m between middle → Took between middle ys n rest after
    → Took text before (xs ++ ys) (m + n) rest after
took_both {text = text} {between = between} {rest = rest} {xs = xs} {ys = ys} {before = before} {m = m} {n = n} first second = record {
  goes_on = goes_on_both text between rest xs ys first.goes_on second.goes_on;
  counted = second.counted ∙ ap (λ k. k + n) first.counted ∙ add_assoc before m n;
}
