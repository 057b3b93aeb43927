use Rattle.std.proofs.Common.{refl, sym, ap, subst, ◌∙◌}
use Rattle.conf_state.{specs.{Kept.entries_of, Trails.Trail}, proofs.StateLemmas.kept_same}
use Rattle.conf_state.proofs.state.State.set_all.Goals as goal

-- ---- a refusal: the sets that were made are taken back

pub take_back-requires-clause-trail : goal.take_back-requires-clause-trail
take_back-requires-clause-trail c =
    let es = entries_of c.self.inside.configs in
    (es, c.in-Err.ensures.trail es (subst (λ ms. Trail es ms es) (sym c.new.ensures.items) refl))

pub invariant_of-self-in-Err : goal.invariant_of-self-in-Err
invariant_of-self-in-Err c =
    let es = entries_of c.self.inside.configs in
    let same = c.take_back.ensures.same es (c.in-Err.ensures.trail es (subst (λ ms. Trail es ms es) (sym c.new.ensures.items) refl)) in
    kept_same c.self.inside.configs c.self.inside.count c.self.inside.entries c.self.invariant c.take_back.new.configs
    c.take_back.ensures.plain same

pub returns-in-Err-clause-unchanged : goal.returns-in-Err-clause-unchanged
returns-in-Err-clause-unchanged c =
    let es = entries_of c.self.inside.configs in
    let same = c.take_back.ensures.same es (c.in-Err.ensures.trail es (subst (λ ms. Trail es ms es) (sym c.new.ensures.items) refl)) in
    ap (λ cs. record { configs = cs; count = c.self.inside.count }) same ∙ c.self.view_is
