-- No byte before this place is a line break.
use Rattle.yaml_refusals.specs.Comments.{IsOneLine}
use Rattle.yaml_refusals.proofs.comments.line_end.Given as goal

abbrev pub invariant-loop-at : goal.invariant-loop-at
invariant-loop-at l = IsOneLine l.bytes l.fn.from l.at
