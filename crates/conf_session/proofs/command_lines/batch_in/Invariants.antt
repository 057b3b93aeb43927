use Rattle.std.proofs.Common.{length}
use denote.Shadow.{shadow}
use denote.Text.{Utf8}
use Rattle.conf_session.specs.{Said.parts_seen, CommandLines.ArePartLines}
use Rattle.conf_session.proofs.command_lines.batch_in.Given as goal

abbrev pub invariant-loop-left : goal.invariant-loop-left
invariant-loop-left l = ArePartLines l.elements (parts_seen l.parts.items) l.left × shadow (Utf8 l.left)

abbrev pub decreases-loop-left : goal.decreases-loop-left
decreases-loop-left l = length l.left
