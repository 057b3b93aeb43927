-- The sign that comes next from here is the next one from the start.
use Rattle.std.proofs.Common.{◌≡◌, ◌+◌, drop}
use Rattle.comments_kept.specs.Signs.{before_sign}
use Rattle.comments_kept.specs.Signs as sign
use Rattle.comments_kept.proofs.signs.next_sign.Given as goal

abbrev pub invariant-loop-at : goal.invariant-loop-at
invariant-loop-at l = l.at + before_sign l.hidden (drop l.at l.bytes) ≡ sign.next_sign l.bytes l.fn.from
