-- A single edit is a list with nothing behind it.
use Rattle.std.proofs.Common.{[], map, subst, sym}
use Rattle.conf_history.proofs.Prelude.{chars, on_ok_weaker, tree_of, command_of, text_of, edit_of}
use Rattle.conf_history.specs.{Prelude.{import_as, set_at, delete_at}, JsonLogs.{edit_json, edits_json, edits_in}}
use Rattle.conf_history.proofs.json_line.write_changes.Goals as goal

pub returns-in-Import : goal.returns-in-Import
returns-in-Import g c =
    let Takes = g.S.Sink.Takes in
    let start = c.args.sink.now in
    let end = c.write_import.new.sink in
    on_ok_weaker c.write_import.result
    (λ written. subst (λ v. Takes start (edits_json [] (edits_in (command_of v))) end) (sym c.in-Import.is)
    (g.met.S.Sink.takes_both _ _ _ _ _
    (subst (λ x. Takes start (edit_json (import_as (chars x) (tree_of c.in-Import.tree))) end) c.deref.ensures written)
    (g.met.S.Sink.takes_none end)))
    c.write_import.ensures

pub returns-in-Set : goal.returns-in-Set
returns-in-Set g c =
    let Takes = g.S.Sink.Takes in
    let start = c.args.sink.now in
    let end = c.write_set.new.sink in
    let value = tree_of c.in-Set.value in
    on_ok_weaker c.write_set.result
    (λ written. subst (λ v. Takes start (edits_json [] (edits_in (command_of v))) end) (sym c.in-Set.is)
    (g.met.S.Sink.takes_both _ _ _ _ _
    (subst (λ x. Takes start (edit_json (set_at (text_of c.in-Set.name) (chars x) value)) end) c.deref-in-Set-2.ensures
    (subst (λ x. Takes start (edit_json (set_at (chars x) (chars c.deref-in-Set-2.result.now) value)) end) c.deref-in-Set.ensures
    written))
    (g.met.S.Sink.takes_none end)))
    c.write_set.ensures

pub returns-in-Delete : goal.returns-in-Delete
returns-in-Delete g c =
    let Takes = g.S.Sink.Takes in
    let start = c.args.sink.now in
    let end = c.write_delete.new.sink in
    on_ok_weaker c.write_delete.result
    (λ written. subst (λ v. Takes start (edits_json [] (edits_in (command_of v))) end) (sym c.in-Delete.is)
    (g.met.S.Sink.takes_both _ _ _ _ _
    (subst (λ x. Takes start (edit_json (delete_at (text_of c.in-Delete.name) (chars x))) end) c.deref-in-Delete-2.ensures
    (subst (λ x. Takes start (edit_json (delete_at (chars x) (chars c.deref-in-Delete-2.result.now))) end) c.deref-in-Delete.ensures
    written))
    (g.met.S.Sink.takes_none end)))
    c.write_delete.ensures

pub returns-in-Batch : goal.returns-in-Batch
returns-in-Batch g c =
    let start = c.args.sink.now in
    let end = c.write_batch.new.sink in
    on_ok_weaker c.write_batch.result
    (λ written. subst (λ v. g.S.Sink.Takes start (edits_json [] (edits_in (command_of v))) end) (sym c.in-Batch.is)
    (subst (λ es. g.S.Sink.Takes start (edits_json [] (map edit_of es)) end) c.deref-in-Batch.ensures.value written))
    c.write_batch.ensures

pub returns-in-Noted : goal.returns-in-Noted
returns-in-Noted g c =
    let start = c.args.sink.now in
    let end = c.write_edits.new.sink in
    on_ok_weaker c.write_edits.result
    (subst (λ v. g.S.Sink.Takes start (edits_json [] (edits_in (command_of v))) end) (sym c.in-Noted.is))
    c.write_edits.ensures
