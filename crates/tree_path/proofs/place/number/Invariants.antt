use Rattle.std.proofs.Common.{◌≡◌, ℕ, length, drop, Option, option_map}
use Rattle.tree_path.{proofs.{Prelude.chars, Numbers.read_on}, specs.Steps.{number_of, as_usize}}
use Rattle.tree_path.proofs.place.number.Given as goal

abbrev pub invariant-loop-c : goal.invariant-loop-c
invariant-loop-c l =
    (so_far : Option ℕ) × (read_on so_far (drop (length l.yielded) (chars l.token)) ≡ number_of (chars l.token))
    × (l.number ≡ option_map as_usize so_far)
