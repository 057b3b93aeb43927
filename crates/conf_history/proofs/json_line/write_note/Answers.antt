use Rattle.std.proofs.Common.{subst, sym}
use Rattle.conf_history.{proofs.Prelude.{on_ok_weaker, command_of}, specs.JsonLogs.note_json}
use Rattle.conf_history.proofs.json_line.write_note.Goals as goal

pub returns-in-Noted : goal.returns-in-Noted
returns-in-Noted g c =
    let start = c.args.sink.now in
    let end = c.write_about.new.sink in
    on_ok_weaker c.write_about.result
    (subst (λ v. g.S.Sink.Takes start (note_json (command_of v)) end) (sym c.in-Noted.is))
    c.write_about.ensures

pub returns-in-Import : goal.returns-in-Import
returns-in-Import g c =
    let start = c.args.sink.now in
    subst (λ v. g.S.Sink.Takes start (note_json (command_of v)) start) (sym c.in-Import.is) (g.met.S.Sink.takes_none start)

pub returns-in-Set : goal.returns-in-Set
returns-in-Set g c =
    let start = c.args.sink.now in
    subst (λ v. g.S.Sink.Takes start (note_json (command_of v)) start) (sym c.in-Set.is) (g.met.S.Sink.takes_none start)

pub returns-in-Delete : goal.returns-in-Delete
returns-in-Delete g c =
    let start = c.args.sink.now in
    subst (λ v. g.S.Sink.Takes start (note_json (command_of v)) start) (sym c.in-Delete.is) (g.met.S.Sink.takes_none start)

pub returns-in-Batch : goal.returns-in-Batch
returns-in-Batch g c =
    let start = c.args.sink.now in
    subst (λ v. g.S.Sink.Takes start (note_json (command_of v)) start) (sym c.in-Batch.is) (g.met.S.Sink.takes_none start)
