use Rattle.std.proofs.Common.{◌-◌, length}
use Rattle.yaml_scan.{proofs.Prelude.space, specs.Classes.ArePassed}
use Rattle.yaml_scan.proofs.runs.spaces_end.Given as goal

abbrev pub invariant-sixteens : goal.invariant-sixteens
invariant-sixteens l = ArePassed space l.bytes l.at l.end

abbrev pub decreases-sixteens : goal.decreases-sixteens
decreases-sixteens l = length l.bytes - l.end
