use Rattle.std.proofs.Common.{◌-◌, length}
use Rattle.yaml_styled.specs.Blocks.{IsRun}
use Rattle.yaml_styled.proofs.blocks.run_len.Given as goal

abbrev pub invariant-sixteens : goal.invariant-sixteens
invariant-sixteens g l = IsRun g.C.Class.passes l.bytes l.len

abbrev pub decreases-sixteens : goal.decreases-sixteens
decreases-sixteens g l = length l.bytes - l.len
