use Rattle.std.proofs.Common.{subst, arith}
use Rattle.conf_state.{specs.{Kept.entries_of, Limits.IsState}, proofs.BaseLemmas.entries_length-short}
use Rattle.conf_state.proofs.state.State.entries_length.Goals as goal

pub returns-clause-short : goal.returns-clause-short
returns-clause-short c =
    let state = c.self.invariant.state in
    let short = entries_length-short c.self.inside.count (entries_of c.self.inside.configs) state.numbered state.short in
    let counted = c.self.invariant.counted in
    omega arith

pub returns-clause-kept : goal.returns-clause-kept
returns-clause-kept c = subst IsState c.self.view_is c.self.invariant.state
