-- The line of this place is that of the place that was asked for.
use Rattle.std.proofs.Common.{◌≡◌, ◌≤◌}
use Rattle.comments_kept.specs.Signs as sign
use Rattle.comments_kept.proofs.signs.line_start.Given as goal

abbrev pub invariant-loop-start : goal.invariant-loop-start
invariant-loop-start l = (l.start ≤ l.at) × (sign.line_start l.bytes l.start ≡ sign.line_start l.bytes l.at)

abbrev pub decreases-loop-start : goal.decreases-loop-start
decreases-loop-start l = l.start
