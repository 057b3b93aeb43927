use Rattle.std.proofs.Common.{length}
use denote.Shadow.{shadow}
use denote.Text.{Utf8}
use Rattle.conf_session.{proofs.Prelude.conditions_of, specs.CommandLines.AreConditionLines}
use Rattle.conf_session.proofs.command_lines.conditional_in.Given as goal

abbrev pub invariant-loop-left : goal.invariant-loop-left
invariant-loop-left l = AreConditionLines l.lines (conditions_of l.conditions.items) l.left × shadow (Utf8 l.left)

abbrev pub decreases-loop-left : goal.decreases-loop-left
decreases-loop-left l = length l.left
