use Rattle.std.proofs.Common.{◌≡◌, ◌⊎◌, ◌<◌, ◌∷◌, [], map, length, Ok, Err, OnOk, IfErr, ap, sym, subst, ◌∙◌, arith}
use Rattle.std.proofs.lemmas.List.{length-map}
use Rattle.conf_state.proofs.{Prelude.err_from_is_err_and, PlanningLemmas.or_so, StepLemmas.{batch-all, batch-one, one_item}}
use Rattle.conf_state.specs.{Commands.{edit_of, batch}, declared.fault.StoreFault.TheVariants.OutOfMemory, Steps.{and_then, all_edited}}
use Rattle.conf_state.specs.Steps.{next_state, step}
use Rattle.conf_state.proofs.steps.step_batch.Goals as goal

pub returns-in-1-clause-refused : goal.returns-in-1-clause-refused
returns-in-1-clause-refused c =
    let s = c.args.state.now in
    let one : length c.args.edits.items ≡ 1 = omega (arith, c.args.edits.ok) in
    let alone : c.args.edits.items ≡ c.unwrap.result ∷ [] =
    one_item c.args.edits.items c.pop.new.self.items c.pop.result c.unwrap.result one c.pop.ensures.items c.unwrap.ensures in
    let same = ap (λ es. step s (batch (map edit_of es)) c.args.room) alone ∙ batch-one s (edit_of c.unwrap.result) c.args.room in
    subst (λ r. IfErr c.step_edit.result (λ fault. (fault ≡ OutOfMemory) ⊎ (r ≡ Err fault))) (sym same) c.step_edit.ensures.refused

pub returns-in_default-clause-ok : goal.returns-in_default-clause-ok
returns-in_default-clause-ok c =
    let s = c.args.state.now in
    let edits = map edit_of c.args.edits.items in
    let some : 0 < length edits = omega (arith, length-map c.args.edits.items edit_of, c.args.edits.ok) in
    let same = batch-all s edits c.args.room some in
    subst (λ r. OnOk c.step_edits.result (r ≡ Ok c.step_edits.new.state)) (sym same) c.step_edits.ensures.ok

pub returns-in_default-clause-refused : goal.returns-in_default-clause-refused
returns-in_default-clause-refused c =
    let s = c.args.state.now in
    let edits = map edit_of c.args.edits.items in
    let some : 0 < length edits = omega (arith, length-map c.args.edits.items edit_of, c.args.edits.ok) in
    let same = batch-all s edits c.args.room some in
    subst (λ r. IfErr c.step_edits.result (λ fault. (fault ≡ OutOfMemory) ⊎ (r ≡ Err fault))) (sym same) c.step_edits.ensures.refused
