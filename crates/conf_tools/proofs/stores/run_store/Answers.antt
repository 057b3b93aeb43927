-- What the session left is what the closed store hands back.
use Rattle.std.proofs.Common.{inl, sym, subst}
use Rattle.conf_tools.proofs.{Prelude.streams_of, SessionLemmas.{answers-on, keeps-answered, opened-after, runs-after, survives-after}}
use Rattle.{conf_tools.specs.Stores.{AnswersOn, KeepsAnswered}, conf_session.specs.Handings.handings_of}
use Rattle.conf_tools.proofs.stores.run_store.Goals as goal

pub returns-clause-runs : goal.returns-clause-runs
returns-clause-runs g c =
    let model = g.D.Disk.model in
    let ran = c.run_session-result in
    let io = streams_of (g.R.Read.remaining c.args.reader.now) (g.R.Read.remaining ran.new.reader)
    (g.S.AnswerSink.taken c.args.sink.now) (g.S.AnswerSink.taken ran.new.sink) in
    let hands = handings_of (g.S.AnswerSink.handings c.args.sink.now) (g.S.AnswerSink.handings ran.new.sink) in
    rw c.after_session.ensures (runs-after model io hands c.args.grouping c.args.disk c.close-disk.result ran.result
    (subst (λ (disk : g.row.D.Denot). AnswersOn model io c.args.grouping c.args.disk disk ran.result) (sym c.close-disk.ensures)
    (answers-on model io hands c.args.disk c.in-Ok.store ran.new.store ran.result c.in-Ok.ensures.opens c.args.grouping
    ran.ensures.runs (record {
      reopen = ran.ensures.reopen;
      device = ran.ensures.device;
      cause = ran.ensures.cause;
      risen = ran.ensures.risen;
    }))))

pub returns-clause-crashes : goal.returns-clause-crashes
returns-clause-crashes g c h =
    let model = g.D.Disk.model in
    let ran = c.run_session-result in
    let io = streams_of (g.R.Read.remaining c.args.reader.now) (g.R.Read.remaining ran.new.reader)
    (g.S.AnswerSink.taken c.args.sink.now) (g.S.AnswerSink.taken ran.new.sink) in
    let hands = handings_of (g.S.AnswerSink.handings c.args.sink.now) (g.S.AnswerSink.handings ran.new.sink) in
    rw c.after_session.ensures (survives-after model io hands c.args.grouping c.args.disk c.close-disk.result ran.result
    (subst (λ (disk : g.row.D.Denot). KeepsAnswered model io hands c.args.grouping c.args.disk disk ran.result) (sym c.close-disk.ensures)
    (keeps-answered model io hands c.args.disk c.in-Ok.store ran.new.store ran.result c.in-Ok.ensures.opens c.args.grouping
    ran.ensures.runs c.answers_acknowledge.ensures h)))

pub returns-clause-untold : goal.returns-clause-untold
returns-clause-untold g c = inl (rw c.after_session.ensures (opened-after c.close-disk.result c.run_session-result.result))
