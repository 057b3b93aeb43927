use Rattle.std.proofs.Common.{subst, sym}
use Rattle.conf_history.proofs.Prelude.{chars, on_ok_weaker, tree_of, edit_of, text_of}
use Rattle.conf_history.specs.{Prelude.{import_as, set_at, delete_at}, JsonLogs.edit_json}
use Rattle.conf_history.proofs.json_line.write_edit.Goals as goal

pub returns-in-Import : goal.returns-in-Import
returns-in-Import g c =
    let Takes = g.S.Sink.Takes in
    let start = c.args.sink.now in
    let end = c.write_import.new.sink in
    on_ok_weaker c.write_import.result
    (λ written. subst (λ v. Takes start (edit_json (edit_of v)) end) (sym c.in-Import.is)
    (subst (λ x. Takes start (edit_json (import_as (chars x) (tree_of c.in-Import.tree))) end) c.deref.ensures written))
    c.write_import.ensures

pub returns-in-Set : goal.returns-in-Set
returns-in-Set g c =
    let Takes = g.S.Sink.Takes in
    let start = c.args.sink.now in
    let end = c.write_set.new.sink in
    let value = tree_of c.in-Set.value in
    on_ok_weaker c.write_set.result
    (λ written. subst (λ v. Takes start (edit_json (edit_of v)) end) (sym c.in-Set.is)
    (subst (λ x. Takes start (edit_json (set_at (text_of c.in-Set.name) (chars x) value)) end) c.deref-in-Set-2.ensures
    (subst (λ x. Takes start (edit_json (set_at (chars x) (chars c.deref-in-Set-2.result.now) value)) end) c.deref-in-Set.ensures
    written)))
    c.write_set.ensures

pub returns-in-Delete : goal.returns-in-Delete
returns-in-Delete g c =
    let Takes = g.S.Sink.Takes in
    let start = c.args.sink.now in
    let end = c.write_delete.new.sink in
    on_ok_weaker c.write_delete.result
    (λ written. subst (λ v. Takes start (edit_json (edit_of v)) end) (sym c.in-Delete.is)
    (subst (λ x. Takes start (edit_json (delete_at (text_of c.in-Delete.name) (chars x))) end) c.deref-in-Delete-2.ensures
    (subst (λ x. Takes start (edit_json (delete_at (chars x) (chars c.deref-in-Delete-2.result.now))) end) c.deref-in-Delete.ensures
    written)))
    c.write_delete.ensures
