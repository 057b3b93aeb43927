use Rattle.std.proofs.Common.{◌-◌, length}
use Rattle.yaml_scan.proofs.LineSteps.{AreCommentLines}
use Rattle.yaml_scan.proofs.lines.later_solid_line.Given as goal

abbrev pub invariant-lines : goal.invariant-lines
invariant-lines l = AreCommentLines l.text l.at l.start

abbrev pub decreases-lines : goal.decreases-lines
decreases-lines l = length l.text - l.start
