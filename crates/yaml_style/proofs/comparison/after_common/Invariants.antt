-- Up to this place both texts are the same.
use Rattle.std.proofs.Common.{◌≡◌, ◌-◌, true, length}
use Rattle.yaml_style.{proofs.Prelude.{chars, IsCharBoundary, rest}, specs.Comparing.comparison_after}
use Rattle.yaml_style.proofs.comparison.after_common.Given as goal

abbrev pub invariant-loop-len : goal.invariant-loop-len
invariant-loop-len l = record {
  here : IsCharBoundary l.text l.at;
  there : IsCharBoundary l.other l.at;
  same : comparison_after (chars l.text) true (chars l.other) ≡ comparison_after (rest l.text l.at) true (rest l.other l.at);
}

abbrev pub decreases-loop-len : goal.decreases-loop-len
decreases-loop-len l = length l.text - l.at
