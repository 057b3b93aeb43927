use Rattle.std.proofs.Common.{◌≤◌, ◌-◌, length, []}
use Rattle.yaml_flow_scalars.{proofs.Prelude.{string_bytes, IsRun, context_of}, specs.DoubleScan.{raw_char, Adds}}
use Rattle.yaml_flow_scalars.proofs.double_quoted.unescaped.Given as goal

abbrev pub invariant-runs : goal.invariant-runs
invariant-runs l = record {
  beyond : l.first ≤ l.end;
  run : IsRun raw_char l.text l.place l.end;
  value : Adds l.n (context_of l.context) l.text [] l.start (string_bytes l.value) l.place;
}

abbrev pub decreases-runs : goal.decreases-runs
decreases-runs l = length l.text - l.place
