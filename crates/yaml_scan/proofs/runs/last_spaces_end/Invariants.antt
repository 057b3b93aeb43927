use Rattle.std.proofs.Common.{◌-◌, length}
use Rattle.yaml_scan.{proofs.Prelude.space, specs.Classes.ArePassed}
use Rattle.yaml_scan.proofs.runs.last_spaces_end.Given as goal

abbrev pub invariant-loop-end : goal.invariant-loop-end
invariant-loop-end l = ArePassed space l.bytes l.at l.end

abbrev pub decreases-loop-end : goal.decreases-loop-end
decreases-loop-end l = length l.bytes - l.end
