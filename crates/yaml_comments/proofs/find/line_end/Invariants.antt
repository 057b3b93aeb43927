-- No byte before this place is a line break.
use Rattle.yaml_comments.specs.Outside.{IsOneLine}
use Rattle.yaml_comments.proofs.find.line_end.Given as goal

abbrev pub invariant-loop-at : goal.invariant-loop-at
invariant-loop-at l = IsOneLine l.bytes l.fn.from l.at
