-- The line behind the bytes from here on is that behind all of them.
use Rattle.std.proofs.Common.{◌≡◌, true, drop}
use Rattle.comments_kept.specs.Laid.{line_behind}
use Rattle.comments_kept.proofs.scalars.is_blank_at_end.Given as goal

abbrev pub invariant-loop-byte : goal.invariant-loop-byte
invariant-loop-byte l =
    line_behind l.line (drop l.byte-index l.text) ≡ line_behind (record { last = true; blank = true; fed = true }) l.text
