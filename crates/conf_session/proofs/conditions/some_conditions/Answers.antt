use Rattle.std.proofs.Common.{◌≡◌, vec_len, sym, ◌∙◌, arith}
use Rattle.conf_session.proofs.{Prelude.{eqb-false, IfOk-weaker}, SaidConditionLemmas.some-in}
use Rattle.conf_session.proofs.conditions.some_conditions.Goals as goal

pub returns : goal.returns
returns c =
    let counted = c.args.elements.ok in
    let some : vec_len c.args.elements ≡ 0 → ⊥ = eqb-false _ _ (sym c.is_empty.ensures ∙ c.if-is_empty.false) in
    IfOk-weaker c.all_conditions_in.result _ _ (λ read e. e
    ∙ sym (some-in c.args.elements.items (λ none. some (omega (arith, counted, none))))) c.all_conditions_in.ensures
