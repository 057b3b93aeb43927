use Rattle.std.proofs.Common.{◌≡◌, ℕ, ◌<◌, ◌≤◌, ◌-◌, true, length, get_or}
use Rattle.yaml_scan.proofs.Prelude.{white}
use Rattle.yaml_scan.proofs.runs.white_end.Given as goal

abbrev pub invariant-loop-end : goal.invariant-loop-end
invariant-loop-end l = record {
  above : l.at ≤ l.end;
  below : l.end ≤ length l.text;
  white : (k : ℕ) → l.at ≤ k → k < l.end → white (get_or l.text k 0) ≡ true;
}

abbrev pub decreases-loop-end : goal.decreases-loop-end
decreases-loop-end l = length l.text - l.end
