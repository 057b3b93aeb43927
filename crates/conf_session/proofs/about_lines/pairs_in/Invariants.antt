use Rattle.std.proofs.Common.{length}
use denote.Shadow.{shadow}
use denote.Text.{Utf8}
use Rattle.conf_session.{proofs.Prelude.members_of, specs.CommandLines.ArePairLines}
use Rattle.conf_session.proofs.about_lines.pairs_in.Given as goal

abbrev pub invariant-loop-left : goal.invariant-loop-left
invariant-loop-left l = ArePairLines l.lines (members_of l.pairs.items) l.left × shadow (Utf8 l.left)

abbrev pub decreases-loop-left : goal.decreases-loop-left
decreases-loop-left l = length l.left
