use Rattle.std.proofs.Common.{◌≤◌, ◌-◌, length}
use Rattle.yaml_flow_scalars.proofs.unclosed.closing_end.Given as goal

abbrev pub invariant-inside : goal.invariant-inside
invariant-inside l = l.at ≤ length l.bytes

abbrev pub decreases-inside : goal.decreases-inside
decreases-inside l = length l.bytes - l.at
