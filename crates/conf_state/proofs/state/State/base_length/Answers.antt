use Rattle.std.proofs.Common.{◌≡◌, min, ap, ap₂, subst, ◌∙◌, arith}
use Rattle.conf_state.{specs.{BaseTexts.framed_length, Limits.IsState}, proofs.BaseLemmas.base_length-framed}
use Rattle.conf_state.proofs.state.State.base_length.Goals as goal

pub returns : goal.returns
returns c =
    let state = c.args.self.now in
    let kept : IsState state = subst IsState c.self.view_is c.self.invariant.state in
    let count : c.from.result ≡ state.count = c.from.ensures ∙ ap (λ s. s.count) c.self.view_is in
    let numbered = kept.numbered in
    let short = kept.short in
    let framed = base_length-framed state.count state.configs (omega arith) in
    let counted = c.base_length.ensures ∙ ap₂ (λ n l. min (framed_length n l) 18446744073709551615) count c.entries_length.ensures.exact in
    omega (arith, short, framed, counted)
