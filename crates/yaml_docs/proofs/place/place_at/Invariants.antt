use Rattle.std.proofs.Common.{length, ◌+◌, ◌-◌, ◌≤◌}
use Rattle.yaml_docs.proofs.Prelude.{IsCharBoundary}
use Rattle.yaml_docs.proofs.place.place_at.Given as goal

abbrev pub invariant-loop-place : goal.invariant-loop-place
invariant-loop-place l = record {
  within : l.start ≤ length l.text;
  boundary : IsCharBoundary l.text l.start;
  few : l.line ≤ l.start + 1;
}

abbrev pub decreases-loop-place : goal.decreases-loop-place
decreases-loop-place l = length l.text - l.start
