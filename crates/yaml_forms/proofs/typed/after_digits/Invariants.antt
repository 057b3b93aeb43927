use Rattle.std.proofs.Common.{◌≡◌, ◌≤◌, ◌-◌, drop, length}
use Rattle.yaml_forms.specs.CoreScalars.{after_digits}
use Rattle.yaml_forms.proofs.typed.after_digits.Given as goal

-- what comes after the digits from here on is what comes after all of them
abbrev pub invariant-loop-at : goal.invariant-loop-at
invariant-loop-at l = (l.at ≤ length l.bytes) × (after_digits (drop l.at l.bytes) ≡ after_digits l.bytes)

abbrev pub decreases-loop-at : goal.decreases-loop-at
decreases-loop-at l = length l.bytes - l.at
