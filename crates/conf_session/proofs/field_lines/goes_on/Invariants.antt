use Rattle.std.proofs.Common.{◌≡◌, length}
use Rattle.conf_session.specs.CommandLines.{goes_on}
use Rattle.conf_session.proofs.field_lines.goes_on.Given as goal

-- what is left may follow where all of it may
abbrev pub invariant-loop-byte : goal.invariant-loop-byte
invariant-loop-byte l = goes_on l.before l.left ≡ goes_on l.first l.bytes

abbrev pub decreases-loop-byte : goal.decreases-loop-byte
decreases-loop-byte l = length l.left
