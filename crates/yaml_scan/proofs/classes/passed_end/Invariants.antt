use Rattle.std.proofs.Common.{◌-◌, length}
use Rattle.yaml_scan.specs.Classes.{test_of, ArePassed}
use Rattle.yaml_scan.proofs.classes.passed_end.Given as goal

abbrev pub invariant-sixteens : goal.invariant-sixteens
invariant-sixteens l = ArePassed (test_of l.class) l.bytes l.at l.end

abbrev pub decreases-sixteens : goal.decreases-sixteens
decreases-sixteens l = length l.bytes - l.end
