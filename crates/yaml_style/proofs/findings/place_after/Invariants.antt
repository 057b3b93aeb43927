-- So many findings were passed, and the place comes after them.
use Rattle.std.proofs.Common.{◌≡◌, ◌+◌, drop}
use Rattle.yaml_style.proofs.{Prelude.position_or_len, PlaceLemmas.later}
use Rattle.yaml_style.proofs.findings.place_after.Given as goal

abbrev pub invariant-loop-finding : goal.invariant-loop-finding
invariant-loop-finding l = record {
  passed : l.at ≡ l.finding-index;
  place : l.at + position_or_len (later l.line) (drop l.at l.findings) ≡ position_or_len (later l.line) l.findings;
}
