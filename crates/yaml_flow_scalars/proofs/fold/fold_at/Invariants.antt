use Rattle.std.proofs.Common.{◌-◌, length}
use Rattle.yaml_flow_scalars.proofs.FoldSteps.{Folding}
use Rattle.yaml_flow_scalars.proofs.fold.fold_at.Given as goal

abbrev pub invariant-lines : goal.invariant-lines
invariant-lines l = Folding l.indent l.text l.at l.line l.empties

abbrev pub decreases-lines : goal.decreases-lines
decreases-lines l = length l.text - l.line
