use Rattle.std.proofs.Common.{◌≡◌, ◌≤◌, ◌-◌, true, take, length}
use Rattle.conf_session.{proofs.Prelude.list_all, specs.FlowLine.flow_char}
use Rattle.conf_session.proofs.flow_line.flow_length.Given as goal

abbrev pub invariant-loop-length : goal.invariant-loop-length
invariant-loop-length l = (l.length ≤ length l.bytes) × (list_all flow_char (take l.length l.bytes) ≡ true)

abbrev pub decreases-loop-length : goal.decreases-loop-length
decreases-loop-length l = length l.bytes - l.length
