use Rattle.std.proofs.Common.{subst, sym}
use Rattle.conf_state.{specs.Kept.IsKept, proofs.StateLemmas.kept_empty}
use Rattle.conf_state.proofs.state.State.new.Goals as goal

pub invariant_of-result : goal.invariant_of-result
invariant_of-result c = subst (λ es. IsKept es 0 0) (sym c.new.ensures) kept_empty
