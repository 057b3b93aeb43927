use Rattle.std.proofs.Common.{ℕ, ◌<◌}
use Rattle.yaml_docs.specs.LineBegun.{Completes}
use Rattle.yaml_docs.proofs.cutter.completed_line.Given as goal

-- no shorter line of dots is completed
abbrev pub invariant-loop-dots : goal.invariant-loop-dots
invariant-loop-dots l = (k : ℕ) → k < l.dots → Completes l.fn.held l.fn.bytes k → ⊥
