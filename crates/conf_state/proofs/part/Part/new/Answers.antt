use Rattle.std.proofs.Common.{min, ap, sym, subst, ◌∙◌, arith}
use Rattle.conf_state.{specs.{BaseTexts.framed_length, Limits.IsState}, proofs.PartStates.{part-short, part-long}}
use Rattle.conf_state.proofs.part.Part.new.Goals as goal

pub invariant_of-result : goal.invariant_of-result
invariant_of-result g c =
    let part = part-short (g.O.Origin.configs c.args.origin) c.new-draft.result c.new-draft.ensures.draft c.args.count
    (omega (arith, c.ranges.count.fits)) c.base_length.result
    (c.base_length.ensures ∙ ap (λ n. min (framed_length n c.new-draft.result.length) 18446744073709551615) c.from.ensures)
    c.if-base_length-gt-BASE_LIMIT.false in
    (part, subst (λ es. IsState (record { configs = es; count = c.args.count })) c.new-draft.ensures.same part.state)

pub returns-clause-some : goal.returns-clause-some
returns-clause-some g c =
    let part = part-short (g.O.Origin.configs c.args.origin) c.new-draft.result c.new-draft.ensures.draft c.args.count
    (omega (arith, c.ranges.count.fits)) c.base_length.result
    (c.base_length.ensures ∙ ap (λ n. min (framed_length n c.new-draft.result.length) 18446744073709551615) c.from.ensures)
    c.if-base_length-gt-BASE_LIMIT.false in
    (ap (λ es. record { configs = es; count = c.args.count }) c.new-draft.ensures.same, part.state)

pub returns-then-base_length-gt-BASE_LIMIT-clause-none : goal.returns-then-base_length-gt-BASE_LIMIT-clause-none
returns-then-base_length-gt-BASE_LIMIT-clause-none g c = λ state.
    part-long (g.O.Origin.configs c.args.origin) c.new-draft.result c.new-draft.ensures.draft c.args.count
    (omega (arith, c.ranges.count.fits)) c.base_length.result
    (c.base_length.ensures ∙ ap (λ n. min (framed_length n c.new-draft.result.length) 18446744073709551615) c.from.ensures)
    c.if-base_length-gt-BASE_LIMIT.true
    (subst (λ es. IsState (record { configs = es; count = c.args.count })) (sym c.new-draft.ensures.same) state)
