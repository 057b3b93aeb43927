-- The part stands in what is left, or nowhere.
use Rattle.std.proofs.Common.{◌≡◌, drop}
use Rattle.conf_tools.specs.Tails.{has_part}
use Rattle.conf_tools.proofs.rest.has_part.Given as goal

abbrev pub invariant-loop-at : goal.invariant-loop-at
invariant-loop-at l = has_part l.part (drop l.at l.bytes) ≡ has_part l.part l.bytes
