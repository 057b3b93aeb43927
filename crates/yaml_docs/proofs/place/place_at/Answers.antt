use Rattle.std.proofs.Common.{arith}
use Rattle.yaml_docs.proofs.Prelude.{IsCharBoundary-start}
use Rattle.yaml_docs.proofs.place.place_at.Goals as goal

pub loop-place-init : goal.loop-place-init
loop-place-init c = record { within = omega arith; boundary = IsCharBoundary-start c.args.text.now c.utf8.text; few = omega arith }
