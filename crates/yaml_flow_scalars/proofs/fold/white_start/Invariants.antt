use Rattle.std.proofs.Common.{◌≡◌, ℕ, ◌<◌, ◌≤◌, true, slice_index}
use Rattle.yaml_flow_scalars.proofs.Prelude.{white}
use Rattle.yaml_flow_scalars.proofs.fold.white_start.Given as goal

abbrev pub invariant-loop-start : goal.invariant-loop-start
invariant-loop-start l = record {
  above : l.from ≤ l.start;
  below : l.start ≤ l.end;
  passes : (k : ℕ) → l.start ≤ k → k < l.end → white (slice_index l.text k) ≡ true;
}

abbrev pub decreases-loop-start : goal.decreases-loop-start
decreases-loop-start l = l.start
