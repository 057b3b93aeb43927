-- What of a header comes next from here is what comes from the start.
use Rattle.std.proofs.Common.{◌≡◌, ◌+◌, drop}
use Rattle.comments_kept.specs.Signs.{header_length}
use Rattle.comments_kept.specs.Signs as sign
use Rattle.comments_kept.proofs.signs.after_header.Given as goal

abbrev pub invariant-loop-at : goal.invariant-loop-at
invariant-loop-at l = l.at + header_length (drop l.at l.bytes) ≡ sign.after_header l.bytes l.fn.from
