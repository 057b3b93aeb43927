use Rattle.std.proofs.Common.{◌≡◌, ◌⊎◌, map, Ok, Err, OnOk, IfErr, ap, sym, subst, ◌∙◌}
use Rattle.conf_state.{proofs.{Prelude.err_from_is_err_and, PlanningLemmas.or_so}, specs.Commands.edit_of}
use Rattle.conf_state.specs.{declared.fault.StoreFault.TheVariants.OutOfMemory, Steps.{and_then, all_edited, next_state}}
use Rattle.conf_state.proofs.steps.step_edits.Goals as goal

pub returns-in_err-draft_edits-clause-refused : goal.returns-in_err-draft_edits-clause-refused
returns-in_err-draft_edits-clause-refused c =
    let s = c.args.state.now in
    let edits = map edit_of c.args.edits.items in
    let p = err_from_is_err_and c.from_residual.result c.from_residual.ensures.1 in
    rw (p.1, p.2)
    (or_so (λ is. ap (λ r. and_then r (next_state s c.args.room))
    (ap (λ es. all_edited es edits) (sym c.new-draft.ensures.same) ∙ is)) c.in_err-draft_edits.ensures.refused)

pub returns-clause-ok : goal.returns-clause-ok
returns-clause-ok c =
    let s = c.args.state.now in
    let edits = map edit_of c.args.edits.items in
    let drafted_all = ap (λ es. all_edited es edits) (sym c.new-draft.ensures.same) ∙ c.in_ok-draft_edits.ensures.ok in
    let same = ap (λ r. and_then r (next_state s c.args.room)) drafted_all in
    subst (λ r. OnOk c.take.result (r ≡ Ok c.take.new.self)) (sym same) c.take.ensures.ok

pub returns-clause-refused : goal.returns-clause-refused
returns-clause-refused c =
    let s = c.args.state.now in
    let edits = map edit_of c.args.edits.items in
    let drafted_all = ap (λ es. all_edited es edits) (sym c.new-draft.ensures.same) ∙ c.in_ok-draft_edits.ensures.ok in
    let same = ap (λ r. and_then r (next_state s c.args.room)) drafted_all in
    subst (λ r. IfErr c.take.result (λ fault. (fault ≡ OutOfMemory) ⊎ (r ≡ Err fault))) (sym same) c.take.ensures.refused
