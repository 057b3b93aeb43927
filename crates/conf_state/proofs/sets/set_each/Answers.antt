use Rattle.std.proofs.Common.{sym, ◌∙◌}
use Rattle.conf_state.proofs.{Prelude.{err_from_is_err_and, into_iter_items}, PlanningLemmas.or_so, SetLemmas.first-refused}
use Rattle.conf_state.specs.Kept.{entries_of}
use Rattle.conf_state.proofs.sets.set_each.Goals as goal

pub returns-in_err-set_one-clause-refused : goal.returns-in_err-set_one-clause-refused
returns-in_err-set_one-clause-refused c =
    let l = c.loop-edit in
    let p = err_from_is_err_and c.from_residual.result c.from_residual.ensures.1 in
    rw (p.1, p.2)
    (or_so (λ is. sym l.invariant.2 ∙ first-refused (entries_of l.configs) (into_iter_items l.edit-iterator) c.in-Some.edit
    (into_iter_items c.next.new.self) c.in-Set.name c.in-Set.path c.in-Set.value c.deref.result.now c.in_err-set_one.field-0.0
    c.in-Some.ensures.steps.0 c.in-Set.is c.deref.ensures is)
    c.in_err-set_one.ensures.refused)
