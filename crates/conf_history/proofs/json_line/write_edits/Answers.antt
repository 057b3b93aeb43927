-- A single edit is a list with nothing behind it.
use Rattle.std.proofs.Common.{[], map, subst, sym}
use Rattle.conf_history.{proofs.Prelude.{on_ok_weaker, edit_of}, specs.{Prelude.command_with, JsonLogs.{edits_json, edits_in}}}
use Rattle.conf_history.proofs.json_line.write_edits.Goals as goal

pub returns-in-Single : goal.returns-in-Single
returns-in-Single g c =
    let start = c.args.sink.now in
    let end = c.write_edit.new.sink in
    on_ok_weaker c.write_edit.result
    (λ written. subst (λ v. g.S.Sink.Takes start (edits_json [] (edits_in (command_with v))) end) (sym c.in-Single.is)
    (g.met.S.Sink.takes_both _ _ _ _ _ written (g.met.S.Sink.takes_none end)))
    c.write_edit.ensures

pub returns-in-Batch : goal.returns-in-Batch
returns-in-Batch g c =
    let start = c.args.sink.now in
    let end = c.write_batch.new.sink in
    on_ok_weaker c.write_batch.result
    (λ written. subst (λ v. g.S.Sink.Takes start (edits_json [] (edits_in (command_with v))) end) (sym c.in-Batch.is)
    (subst (λ es. g.S.Sink.Takes start (edits_json [] (map edit_of es)) end) c.deref.ensures.value written))
    c.write_batch.ensures
