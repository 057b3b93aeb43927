-- What the text goes on with after the spaces that are left, it goes on with after all of them.
use Rattle.std.specs.Prelude.{List, ℕ}
use Rattle.yaml_styled.proofs.Prelude.{spaces}
use denote.Text.{Utf8}
use denote.Shadow.{shadow}
use Rattle.yaml_styled.specs.Comparing.{GoesOn}
use Rattle.yaml_styled.proofs.lines.strip_spaces.Given as goal

abbrev pub invariant-loop-left : goal.invariant-loop-left
invariant-loop-left l = shadow (Utf8 l.rest) × ((rest : List ℕ) → GoesOn l.rest (spaces l.left) rest
    → GoesOn l.text (spaces l.count) rest)

abbrev pub decreases-loop-left : goal.decreases-loop-left
decreases-loop-left l = l.left
