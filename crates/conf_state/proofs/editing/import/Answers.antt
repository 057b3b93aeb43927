use Rattle.std.proofs.Common.{Err, ap, sym, subst, ◌∙◌}
use Rattle.conf_state.{proofs.{Prelude.{chars, tree_of}, StepLemmas.{edited-named, edited-unnamed}}, specs.Commands.{text_of, import_as}}
use Rattle.conf_state.specs.{Names.good_name, declared.fault.StoreFault.TheVariants.BadName}
use Rattle.conf_state.proofs.editing.import.Goals as goal

pub returns-then-not-good_name : goal.returns-then-not-good_name
returns-then-not-good_name g c =
    let e = g.E.Editor in
    let editor = c.args.editor.now in
    let old = c.args.target.now in
    let bad = ap (λ bs. good_name (chars bs)) (sym c.deref.ensures) ∙ sym c.good_name.ensures.named ∙ c.if-not-good_name.true in
    subst (λ made. e.Ends editor old made (Err BadName) old)
    (sym (edited-unnamed (e.configs editor old) (import_as (text_of c.args.name) (tree_of c.args.config)) bad))
    (g.met.E.Editor.refused editor old BadName)

pub put_within-requires-clause-named : goal.put_within-requires-clause-named
put_within-requires-clause-named g c =
    ap (λ bs. good_name (chars bs)) (sym c.deref.ensures) ∙ sym c.good_name.ensures.named ∙ c.if-not-good_name.false

pub returns : goal.returns
returns g c =
    let e = g.E.Editor in
    let editor = c.args.editor.now in
    let old = c.args.target.now in
    let named = ap (λ bs. good_name (chars bs)) (sym c.deref.ensures) ∙ sym c.good_name.ensures.named ∙ c.if-not-good_name.false in
    subst (λ made. e.Ends editor old made c.put_within.result c.put_within.new.target)
    (sym (edited-named (e.configs editor old) (import_as (text_of c.args.name) (tree_of c.args.config)) named)) c.put_within.ensures
