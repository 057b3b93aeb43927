use Rattle.std.proofs.Common.{◌-◌, length}
use Rattle.yaml_flow_scalars.proofs.Prelude.{IsCharBoundary}
use Rattle.yaml_flow_scalars.proofs.fold.fold_fault.Given as goal

abbrev pub invariant-lines : goal.invariant-lines
invariant-lines l = IsCharBoundary l.text l.line

abbrev pub decreases-lines : goal.decreases-lines
decreases-lines l = length l.text - l.line
