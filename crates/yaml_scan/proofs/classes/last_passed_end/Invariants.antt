use Rattle.std.proofs.Common.{◌-◌, length}
use Rattle.yaml_scan.specs.Classes.{test_of, ArePassed}
use Rattle.yaml_scan.proofs.classes.last_passed_end.Given as goal

abbrev pub invariant-loop-end : goal.invariant-loop-end
invariant-loop-end l = ArePassed (test_of l.class) l.bytes l.at l.end

abbrev pub decreases-loop-end : goal.decreases-loop-end
decreases-loop-end l = length l.bytes - l.end
