use Rattle.std.proofs.Common.{◌++◌, codes, [], map, subst, sym}
use Rattle.conf_history.proofs.Prelude.{chars, on_ok_weaker, in_double_quotes, tree_of, command_of, text_of, edit_of}
use Rattle.conf_history.specs.{AboutKeys.keys_of, Logs.{command_words, edits_words, value_words}}
use Rattle.conf_history.proofs.line.write_command.Goals as goal

pub returns-in-Import : goal.returns-in-Import
returns-in-Import g c =
    let shown = keys_of c.args.shown.now in
    let start = c.args.sink.now in
    let end = c.write_import.new.sink in
    on_ok_weaker c.write_import.result
    (λ written. subst (λ v. g.S.Sink.Takes start (command_words c.args.form shown (command_of v)) end) (sym c.in-Import.is)
    (subst (λ x. g.S.Sink.Takes start (codes " import " ++ chars x
    ++ value_words c.args.form [] (tree_of c.in-Import.tree)) end) c.deref.ensures written))
    c.write_import.ensures

pub returns-in-Set : goal.returns-in-Set
returns-in-Set g c =
    let shown = keys_of c.args.shown.now in
    let start = c.args.sink.now in
    let end = c.write_set.new.sink in
    on_ok_weaker c.write_set.result
    (λ written. subst (λ v. g.S.Sink.Takes start (command_words c.args.form shown (command_of v)) end) (sym c.in-Set.is)
    (subst (λ x. g.S.Sink.Takes start (codes " set " ++ text_of c.in-Set.name ++ codes " "
    ++ in_double_quotes (chars x) ++ value_words c.args.form (chars x) (tree_of c.in-Set.value)) end) c.deref-in-Set-2.ensures
    (subst (λ x. g.S.Sink.Takes start (codes " set " ++ chars x ++ codes " "
    ++ in_double_quotes (chars c.deref-in-Set-2.result.now)
    ++ value_words c.args.form (chars c.deref-in-Set-2.result.now) (tree_of c.in-Set.value))
    end) c.deref-in-Set.ensures written)))
    c.write_set.ensures

pub returns-in-Delete : goal.returns-in-Delete
returns-in-Delete g c =
    let shown = keys_of c.args.shown.now in
    let start = c.args.sink.now in
    let end = c.write_delete.new.sink in
    on_ok_weaker c.write_delete.result
    (λ written. subst (λ v. g.S.Sink.Takes start (command_words c.args.form shown (command_of v)) end) (sym c.in-Delete.is)
    (subst (λ x. g.S.Sink.Takes start (codes " delete " ++ text_of c.in-Delete.name ++ codes " "
    ++ in_double_quotes (chars x)) end) c.deref-in-Delete-2.ensures
    (subst (λ x. g.S.Sink.Takes start (codes " delete " ++ chars x ++ codes " "
    ++ in_double_quotes (chars c.deref-in-Delete-2.result.now)) end) c.deref-in-Delete.ensures written)))
    c.write_delete.ensures

pub returns-in-Batch : goal.returns-in-Batch
returns-in-Batch g c =
    let shown = keys_of c.args.shown.now in
    let start = c.args.sink.now in
    let end = c.write_batch.new.sink in
    on_ok_weaker c.write_batch.result
    (λ written. subst (λ v. g.S.Sink.Takes start (command_words c.args.form shown (command_of v)) end) (sym c.in-Batch.is)
    (subst (λ x. g.S.Sink.Takes start (codes " batch" ++ edits_words c.args.form [] (map edit_of x)) end)
    c.deref-in-Batch.ensures.value written))
    c.write_batch.ensures
