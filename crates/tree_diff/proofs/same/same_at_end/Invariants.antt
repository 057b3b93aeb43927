use Rattle.std.proofs.Common.{◌≡◌, ◌≤◌, drop}
use Rattle.tree_diff.{proofs.Prelude.elements_of, specs.Choices.same_at_end}
use Rattle.tree_diff.proofs.same.same_at_end.Given as goal

abbrev pub invariant-loop-place : goal.invariant-loop-place
invariant-loop-place l = record {
  within : l.run ≤ l.place;
  so_far : same_at_end l.run (elements_of (drop l.place l.first)) (elements_of (drop l.place l.second))
      ≡ same_at_end 0 (elements_of l.first) (elements_of l.second);
}
