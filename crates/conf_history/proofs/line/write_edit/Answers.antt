use Rattle.std.proofs.Common.{◌++◌, codes, subst, sym, []}
use Rattle.conf_history.{proofs.Prelude.{chars, on_ok_weaker, in_double_quotes, tree_of, edit_of, text_of}, specs.Logs.edit_words}
use Rattle.conf_history.specs.Logs.{value_words}
use Rattle.conf_history.proofs.line.write_edit.Goals as goal

pub returns-in-Import : goal.returns-in-Import
returns-in-Import g c =
    let start = c.args.sink.now in
    let end = c.write_import.new.sink in
    on_ok_weaker c.write_import.result
    (λ written. subst (λ v. g.S.Sink.Takes start (edit_words c.args.form (edit_of v)) end) (sym c.in-Import.is)
    (subst (λ x. g.S.Sink.Takes start (codes " import " ++ chars x
    ++ value_words c.args.form [] (tree_of c.in-Import.tree)) end) c.deref.ensures written))
    c.write_import.ensures

pub returns-in-Set : goal.returns-in-Set
returns-in-Set g c =
    let start = c.args.sink.now in
    let end = c.write_set.new.sink in
    on_ok_weaker c.write_set.result
    (λ written. subst (λ v. g.S.Sink.Takes start (edit_words c.args.form (edit_of v)) end) (sym c.in-Set.is)
    (subst (λ x. g.S.Sink.Takes start (codes " set " ++ text_of c.in-Set.name ++ codes " "
    ++ in_double_quotes (chars x) ++ value_words c.args.form (chars x) (tree_of c.in-Set.value)) end) c.deref-in-Set-2.ensures
    (subst (λ x. g.S.Sink.Takes start (codes " set " ++ chars x ++ codes " "
    ++ in_double_quotes (chars c.deref-in-Set-2.result.now)
    ++ value_words c.args.form (chars c.deref-in-Set-2.result.now) (tree_of c.in-Set.value))
    end) c.deref-in-Set.ensures written)))
    c.write_set.ensures

pub returns-in-Delete : goal.returns-in-Delete
returns-in-Delete g c =
    let start = c.args.sink.now in
    let end = c.write_delete.new.sink in
    on_ok_weaker c.write_delete.result
    (λ written. subst (λ v. g.S.Sink.Takes start (edit_words c.args.form (edit_of v)) end) (sym c.in-Delete.is)
    (subst (λ x. g.S.Sink.Takes start (codes " delete " ++ text_of c.in-Delete.name ++ codes " "
    ++ in_double_quotes (chars x)) end) c.deref-in-Delete-2.ensures
    (subst (λ x. g.S.Sink.Takes start (codes " delete " ++ chars x ++ codes " "
    ++ in_double_quotes (chars c.deref-in-Delete-2.result.now)) end) c.deref-in-Delete.ensures written)))
    c.write_delete.ensures
