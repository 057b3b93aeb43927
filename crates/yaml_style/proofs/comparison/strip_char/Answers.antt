use Rattle.std.proofs.Common.{refl}
use Rattle.yaml_style.proofs.{Prelude.{IsCharBoundary-start, false≢true}, ComparingLemmas.at_the_end}
use Rattle.yaml_style.proofs.comparison.strip_char.Goals as goal

pub next_char-requires : goal.next_char-requires
next_char-requires c = IsCharBoundary-start c.args.text.now c.utf8.text

pub returns-in_default-clause-none : goal.returns-in_default-clause-none
returns-in_default-clause-none c = let none =
    at_the_end c.args.text.now 0 (λ l. false≢true (c.in_default.ensures.found.1 l)) in rw none refl
