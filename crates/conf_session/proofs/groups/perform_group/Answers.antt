-- The group is flushed, whether or not there was memory for all of it, and then its answers are handed out.
use Rattle.std.{proofs.Common.{inl, inr, sym, ◌∙◌, arith, ◌++◌, length}, specs.Prelude.Err}
use Rattle.conf_session.proofs.{Prelude.{err_from_is_err_and, on_ok_weaker}, GatherLemmas.{ends-answered, ends-cut, ends-unanswered}}
use Rattle.conf_session.proofs.{GatherLemmas.{ends-unflushed, gathered, group-acknowledged, room-written}, RequestLemmas.failures-after}
use Rattle.conf_session.{proofs.RequestLemmas.{failures-later, failures-none}, specs.Input.{ahead, bytes_read, piece_or_rest}}
use Rattle.conf_session.proofs.groups.perform_group.Goals as goal

pub returns-then-needs_reopen-clause-performs : goal.returns-then-needs_reopen-clause-performs
returns-then-needs_reopen-clause-performs g c =
    let new = c.submit_group-ended.new in
    ends-unanswered g.D.Disk.model (g.S.AnswerSink.taken c.args.sink.now) (g.S.AnswerSink.handings c.args.sink.now)
    (piece_or_rest c.args.input.now ++ ahead c.args.input.now)
    new.input c.args.store.now new.store c.args.answers.now new.answers c.submit_group-ended.result c.submit_group-ended.ensures.submits
    (inl (sym c.needs_reopen.ensures.reopen ∙ c.if-needs_reopen.true))

pub returns-then-answers-before-clause-performs : goal.returns-then-answers-before-clause-performs
returns-then-answers-before-clause-performs g c =
    let new = c.submit_group-ended.new in
    ends-unanswered g.D.Disk.model (g.S.AnswerSink.taken c.args.sink.now) (g.S.AnswerSink.handings c.args.sink.now)
    (piece_or_rest c.args.input.now ++ ahead c.args.input.now)
    new.input c.args.store.now new.store c.args.answers.now new.answers c.submit_group-ended.result c.submit_group-ended.ensures.submits
    (inr c.if-answers-before.true)

pub returns-in_err-flush_all-clause-performs : goal.returns-in_err-flush_all-clause-performs
returns-in_err-flush_all-clause-performs g c =
    let d = g.D.Disk in
    let mid = c.submit_group-ended.new in
    let bytes = piece_or_rest c.args.input.now ++ ahead c.args.input.now in
    let s = gathered d.model bytes mid.input c.args.store.now mid.store c.args.answers.now mid.answers c.submit_group-ended.result
    c.submit_group-ended.ensures.submits (sym c.needs_reopen.ensures.reopen ∙ c.if-needs_reopen.false) in
    let ends = ends-unflushed d.model (g.S.AnswerSink.taken c.args.sink.now)
    (g.S.AnswerSink.handings c.args.sink.now) bytes mid.input c.args.store.now mid.store
    c.flush_all.new.store c.args.answers.now mid.answers s.0 s.1 c.if-answers-before.false mid.answers
    c.in_err-flush_all.field-0.0 c.in_err-flush_all.ensures.flushes in
    let p = err_from_is_err_and c.from_residual.result c.from_residual.ensures.1 in
    rw (p.1, p.2) ends

pub put-requires-clause-acknowledged : goal.put-requires-clause-acknowledged
put-requires-clause-acknowledged g c =
    let d = g.D.Disk in
    let mid = c.submit_group-ended.new in
    let bytes = piece_or_rest c.args.input.now ++ ahead c.args.input.now in
    let s = gathered d.model bytes mid.input c.args.store.now mid.store c.args.answers.now mid.answers c.submit_group-ended.result
    c.submit_group-ended.ensures.submits (sym c.needs_reopen.ensures.reopen ∙ c.if-needs_reopen.false) in
    group-acknowledged d.model (g.S.AnswerSink.taken c.args.sink.now)
    (g.S.AnswerSink.handings c.args.sink.now) bytes mid.input c.args.store.now mid.store
    c.flush_all.new.store c.args.answers.now mid.answers s.0 s.1 c.if-answers-before.false c.requires.none
    c.in_ok-flush_all.ensures.flushes c.requires.sent

pub returns-in_err-put-clause-performs : goal.returns-in_err-put-clause-performs
returns-in_err-put-clause-performs g c =
    let d = g.D.Disk in
    let mid = c.submit_group-ended.new in
    let bytes = piece_or_rest c.args.input.now ++ ahead c.args.input.now in
    let s = gathered d.model bytes mid.input c.args.store.now mid.store c.args.answers.now mid.answers c.submit_group-ended.result
    c.submit_group-ended.ensures.submits (sym c.needs_reopen.ensures.reopen ∙ c.if-needs_reopen.false) in
    let ends = ends-cut d.model (g.S.AnswerSink.taken c.args.sink.now)
    (g.S.AnswerSink.handings c.args.sink.now) bytes mid.input c.args.store.now mid.store
    c.flush_all.new.store c.args.answers.now mid.answers s.0 s.1 c.if-answers-before.false c.requires.none
    c.in_ok-flush_all.ensures.flushes (g.S.AnswerSink.taken c.put.new.sink) (g.S.AnswerSink.handings c.put.new.sink) c.put.new.self
    c.in_err-put.field-0.0 c.in_err-put.ensures.fails c.put.ensures.hands in
    let p = err_from_is_err_and c.from_residual-in_err-put.result c.from_residual-in_err-put.ensures.1 in
    rw (p.1, p.2) ends

pub returns-clause-performs : goal.returns-clause-performs
returns-clause-performs g c =
    let d = g.D.Disk in
    let mid = c.submit_group-ended.new in
    ends-answered d.model (g.S.AnswerSink.taken c.args.sink.now) (g.S.AnswerSink.taken c.put.new.sink)
    (g.S.AnswerSink.handings c.args.sink.now) (g.S.AnswerSink.handings c.put.new.sink)
    (piece_or_rest c.args.input.now ++ ahead c.args.input.now) mid.input c.args.store.now mid.store c.flush_all.new.store
    c.args.answers.now mid.answers c.put.new.self c.submit_group-ended.result c.submit_group-ended.ensures.submits
    (sym c.needs_reopen.ensures.reopen ∙ c.if-needs_reopen.false) c.if-answers-before.false c.requires.none
    c.in_ok-flush_all.ensures.flushes c.in_ok-put.ensures.ok c.put.ensures.hands

pub returns-clause-goes_on : goal.returns-clause-goes_on
returns-clause-goes_on g c =
    let mid = c.submit_group-ended.new in
    on_ok_weaker c.submit_group-ended.result
    (λ on. record {
      read = on.read;
      less = on.less;
      room = room-written (g.S.AnswerSink.taken c.args.sink.now) (g.S.AnswerSink.taken c.put.new.sink) mid.answers c.put.new.self
          (length (ahead mid.input)) (bytes_read mid.input) on.room c.in_ok-put.ensures.ok;
    }) c.submit_group-ended.ensures.goes_on

-- ---- failures of the device

pub returns-in_err-flush_all-clause-failures : goal.returns-in_err-flush_all-clause-failures
returns-in_err-flush_all-clause-failures g c =
    let d = g.D.Disk in
    let all = failures-after d.model c.args.store.now c.submit_group-ended.new.store c.flush_all.new.store
    (Err c.in_err-flush_all.field-0.0) c.submit_group-ended.ensures.failures.risen c.in_err-flush_all.ensures.failures in
    let p = err_from_is_err_and c.from_residual.result c.from_residual.ensures.1 in
    rw (p.1, p.2) all

pub returns-in_err-put-clause-failures : goal.returns-in_err-put-clause-failures
returns-in_err-put-clause-failures g c =
    let d = g.D.Disk in
    let p = err_from_is_err_and c.from_residual-in_err-put.result c.from_residual-in_err-put.ensures.1 in
    failures-none d.model c.args.store.now c.flush_all.new.store c.from_residual-in_err-put.result
    (omega (arith, c.submit_group-ended.ensures.failures.risen, c.flush_all.ensures.failures.risen))
    (λ e. cc (e, p.1, p.2, c.in_err-put.ensures.fails.1))

pub returns-clause-failures : goal.returns-clause-failures
returns-clause-failures g c =
    let d = g.D.Disk in
    failures-later d.model c.args.store.now c.submit_group-ended.new.store c.flush_all.new.store c.submit_group-ended.result
    c.submit_group-ended.ensures.failures c.flush_all.ensures.failures.risen
