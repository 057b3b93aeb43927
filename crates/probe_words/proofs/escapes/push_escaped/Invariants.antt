-- Each turn takes a byte off what is left.
use Rattle.std.proofs.Common.{length}
use Rattle.probe_words.proofs.escapes.push_escaped.Given as goal

abbrev pub decreases-loop-left : goal.decreases-loop-left
decreases-loop-left l = length l.left
