use Rattle.std.proofs.Common.{◌≡◌, refl, ◌∷◌, [], true, List, ℕ}
use Rattle.yaml_style.{proofs.{Prelude.{rest, false≢true}, ComparingLemmas.{at_the_end, nothing_left}}, specs.Comparing.comparison_after}
use Rattle.yaml_style.proofs.comparison.common_char.Goals as goal

pub returns-in_default-clause-none : goal.returns-in_default-clause-none
returns-in_default-clause-none c =
    let none = at_the_end c.args.text.now c.args.at (λ l. false≢true (c.in_default.ensures.found.1 l)) in
    rw none (nothing_left (rest c.args.other.now c.args.at))

pub returns-in_default-next_char-clause-none : goal.returns-in_default-next_char-clause-none
returns-in_default-next_char-clause-none c =
    let none = at_the_end c.args.other.now c.args.at (λ l. false≢true (c.in_default-next_char.ensures.found.1 l)) in
    rw none (nothing_more (rest c.args.text.now c.args.at))
  where
    nothing_more : (xs : List ℕ) → (comparison_after xs true []).0 ≡ xs
    nothing_more [] = refl
    nothing_more (x ∷ xs) = refl
