use Rattle.std.proofs.Common.{◌-◌, length}
use Rattle.yaml_block_scalars.proofs.EmptyLines.{AreEmptiesSoFar}
use Rattle.yaml_block_scalars.proofs.line.empty_lines.Given as goal

abbrev pub invariant-lines : goal.invariant-lines
invariant-lines l = AreEmptiesSoFar l.indent l.text l.at l.count l.place

abbrev pub decreases-lines : goal.decreases-lines
decreases-lines l = length l.text - l.place
