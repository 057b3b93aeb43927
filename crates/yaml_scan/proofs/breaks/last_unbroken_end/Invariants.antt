use Rattle.std.proofs.Common.{◌-◌, length}
use Rattle.yaml_scan.{proofs.Prelude.no_break, specs.Classes.ArePassed}
use Rattle.yaml_scan.proofs.breaks.last_unbroken_end.Given as goal

abbrev pub invariant-loop-end : goal.invariant-loop-end
invariant-loop-end l = ArePassed no_break l.bytes l.at l.end

abbrev pub decreases-loop-end : goal.decreases-loop-end
decreases-loop-end l = length l.bytes - l.end
