use Rattle.std.proofs.Common.{◌-◌, length}
use Rattle.yaml_styled.specs.Blocks.{IsRun}
use Rattle.yaml_styled.proofs.blocks.last_run_len.Given as goal

abbrev pub invariant-loop-len : goal.invariant-loop-len
invariant-loop-len g l = IsRun g.C.Class.passes l.bytes l.len

abbrev pub decreases-loop-len : goal.decreases-loop-len
decreases-loop-len g l = length l.bytes - l.len
