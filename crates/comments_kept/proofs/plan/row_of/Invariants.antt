-- The line that is found from here is the one that is found from the start.
use Rattle.std.proofs.Common.{◌≡◌, ◌+◌, drop}
use Rattle.comments_kept.specs.Places.{rows_to}
use Rattle.comments_kept.specs.Places as place
use Rattle.comments_kept.proofs.plan.row_of.Given as goal

abbrev pub invariant-loop-row : goal.invariant-loop-row
invariant-loop-row l = l.row + rows_to l.line (drop l.row l.rows) ≡ place.row_of l.rows l.fn.from l.line
