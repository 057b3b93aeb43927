use Rattle.std.proofs.Common.{◌-◌, ◌≤◌, length}
use Rattle.yaml_flow_scalars.{proofs.{Prelude.{IsCharBoundary, context_of}, PlainPieces.GoesOn}, specs.PlainPlaces.is_content}
use Rattle.yaml_flow_scalars.proofs.plain_scalar.plain_run_end.Given as goal

abbrev pub invariant-runs : goal.invariant-runs
invariant-runs l = record {
  above : l.from ≤ l.end;
  boundary : IsCharBoundary l.text l.end;
  goes_on : GoesOn (context_of l.context) (is_content l.fn.before) (is_content l.before) l.text l.from l.end;
}

abbrev pub decreases-runs : goal.decreases-runs
decreases-runs l = length l.text - l.end
