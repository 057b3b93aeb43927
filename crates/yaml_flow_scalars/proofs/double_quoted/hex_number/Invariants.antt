use Rattle.std.proofs.Common.{◌≤◌, ◌+◌, ◌-◌}
use Rattle.yaml_flow_scalars.proofs.DoublePlaces.{DigitsTo}
use Rattle.yaml_flow_scalars.proofs.double_quoted.hex_number.Given as goal

abbrev pub invariant-loop-end : goal.invariant-loop-end
invariant-loop-end l = record {
  few : l.end ≤ l.at + l.count;
  digits : DigitsTo l.text l.at l.end l.number;
}

abbrev pub decreases-loop-end : goal.decreases-loop-end
decreases-loop-end l = l.at + l.count - l.end
