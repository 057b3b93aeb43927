use Rattle.std.proofs.Common.{◌≡◌, ◌≤◌, ◌-◌, true, take, length}
use Rattle.yaml_writer.{proofs.Prelude.list_all, specs.Runs.stands_alone}
use Rattle.yaml_writer.proofs.quoted.sixteens_len.Given as goal

abbrev pub invariant-loop-len : goal.invariant-loop-len
invariant-loop-len l = (l.len ≤ length l.bytes) × (list_all stands_alone (take l.len l.bytes) ≡ true)

abbrev pub decreases-loop-len : goal.decreases-loop-len
decreases-loop-len l = length l.bytes - l.len
