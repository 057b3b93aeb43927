use Rattle.std.proofs.Common.{◌-◌, length}
use Rattle.yaml_block_scalars.proofs.EmptyLines.{AreLeadingSoFar}
use Rattle.yaml_block_scalars.proofs.indent.leading_lines.Given as goal

abbrev pub invariant-lines : goal.invariant-lines
invariant-lines l = AreLeadingSoFar l.text l.at l.widest l.place

abbrev pub decreases-lines : goal.decreases-lines
decreases-lines l = length l.text - l.place
