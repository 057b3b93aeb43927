-- No byte before this place is a `#`.
use Rattle.yaml_refusals.specs.Comments.{HasNoMark}
use Rattle.yaml_refusals.proofs.comments.first_mark.Given as goal

abbrev pub invariant-loop-at : goal.invariant-loop-at
invariant-loop-at l = HasNoMark l.bytes l.fn.from l.at
