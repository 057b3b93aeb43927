-- The bytes from the place on are blank.
use Rattle.std.proofs.Common.{◌^◌, ◌<◌, ◌≤◌, length}
use Rattle.conf_tools.proofs.TailLemmas.{AreBlankFrom}
use Rattle.conf_tools.proofs.tail.blanks_after.Given as goal

abbrev pub invariant-blanks : goal.invariant-blanks
invariant-blanks l = record {
  within : l.at ≤ length l.bytes;
  short : length l.bytes < 2 ^ 64;
  blank : AreBlankFrom l.bytes l.at;
}

abbrev pub decreases-blanks : goal.decreases-blanks
decreases-blanks l = l.at
