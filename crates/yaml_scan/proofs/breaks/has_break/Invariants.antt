use Rattle.std.proofs.Common.{◌-◌, length}
use Rattle.yaml_scan.{proofs.Prelude.no_break, specs.Classes.ArePassed}
use Rattle.yaml_scan.proofs.breaks.has_break.Given as goal

abbrev pub invariant-sixteens : goal.invariant-sixteens
invariant-sixteens l = ArePassed no_break l.bytes l.from l.at

abbrev pub decreases-sixteens : goal.decreases-sixteens
decreases-sixteens l = length l.bytes - l.at
