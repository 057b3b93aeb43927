-- What was found up to this place.
use Rattle.std.proofs.Common.{◌-◌}
use Rattle.yaml_comments.{specs.Found.places_of, proofs.Gaps.Led}
use Rattle.yaml_comments.proofs.find.push_gap.Given as goal

abbrev pub invariant-loop-at : goal.invariant-loop-at
invariant-loop-at l = Led l.bytes l.from l.to l.at (places_of l.fn.found.items) (places_of l.found.items)

abbrev pub decreases-loop-at : goal.decreases-loop-at
decreases-loop-at l = l.to - l.at
