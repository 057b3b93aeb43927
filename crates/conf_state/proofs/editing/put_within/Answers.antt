use Rattle.std.proofs.Common.{Err, sym, subst}
use Rattle.conf_state.{proofs.{Prelude.{err_from_is_err_and, tree_of}, StepLemmas.{import-checked, import-refused}}, specs.Commands.text_of}
use Rattle.conf_state.proofs.editing.put_within.Goals as goal

pub returns-in_err-check_limits : goal.returns-in_err-check_limits
returns-in_err-check_limits g c =
    let e = g.E.Editor in
    let editor = c.args.editor.now in
    let old = c.args.target.now in
    let p = err_from_is_err_and c.from_residual.result c.from_residual.ensures.1 in
    rw (p.1, p.2)
    (subst (λ made. e.Ends editor old made (Err c.in_err-check_limits.field-0.0) old)
    (sym (import-refused (e.configs editor old) (text_of c.args.name)
    (tree_of c.args.config) c.in_err-check_limits.field-0.0 c.in_err-check_limits.ensures.refused))
    (g.met.E.Editor.refused editor old c.in_err-check_limits.field-0.0))

pub returns : goal.returns
returns g c =
    let e = g.E.Editor in
    let editor = c.args.editor.now in
    let old = c.args.target.now in
    subst (λ made. e.Ends editor old made c.put.result c.put.new.target)
    (sym (import-checked (e.configs editor old) (text_of c.args.name) (tree_of c.args.config) c.in_ok-check_limits.ensures.ok))
    c.put.ensures
