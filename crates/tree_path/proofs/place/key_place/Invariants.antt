use Rattle.std.proofs.Common.{◌≡◌, ◌+◌, drop, option_map}
use Rattle.tree_path.{proofs.Prelude.chars, specs.Steps.key_place}
use Rattle.tree_path.proofs.place.key_place.Given as goal

abbrev pub invariant-loop-place : goal.invariant-loop-place
invariant-loop-place l =
    key_place (chars l.key) l.pairs ≡ option_map (λ i. l.place + i) (key_place (chars l.key) (drop l.place l.pairs))
