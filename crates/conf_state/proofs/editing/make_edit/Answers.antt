use Rattle.std.proofs.Common.{ap, sym, subst, ◌∙◌}
use Rattle.conf_state.{proofs.Prelude.{chars, tree_of}, specs.{Commands.{edit_of, text_of, set_at, delete_at}, Steps.edited}}
use Rattle.conf_state.proofs.editing.make_edit.Goals as goal

pub returns-in-Import : goal.returns-in-Import
returns-in-Import g c =
    let e = g.E.Editor in
    let editor = c.args.editor.now in
    let old = c.args.target.now in
    let es = e.configs editor old in
    subst (λ made. e.Ends editor old made c.import.result c.import.new.target)
    (sym (ap (λ edit. edited es (edit_of edit)) c.in-Import.is)) c.import.ensures

pub returns-in-Set : goal.returns-in-Set
returns-in-Set g c =
    let e = g.E.Editor in
    let editor = c.args.editor.now in
    let old = c.args.target.now in
    let es = e.configs editor old in
    subst (λ made. e.Ends editor old made c.set.result c.set.new.target)
    (sym (ap (λ edit. edited es (edit_of edit)) c.in-Set.is
    ∙ ap (λ bs. edited es (set_at (text_of c.in-Set.name) (chars bs) (tree_of c.in-Set.value))) (sym c.deref.ensures)))
    c.set.ensures

pub returns-in-Delete : goal.returns-in-Delete
returns-in-Delete g c =
    let e = g.E.Editor in
    let editor = c.args.editor.now in
    let old = c.args.target.now in
    let es = e.configs editor old in
    subst (λ made. e.Ends editor old made c.delete.result c.delete.new.target)
    (sym (ap (λ edit. edited es (edit_of edit)) c.in-Delete.is
    ∙ ap (λ bs. edited es (delete_at (text_of c.in-Delete.name) (chars bs))) (sym c.deref-in-Delete.ensures)))
    c.delete.ensures
