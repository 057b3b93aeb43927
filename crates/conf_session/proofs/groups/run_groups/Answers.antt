-- Each turn performs and answers one group, and then makes a part of a checkpoint.
use Rattle.std.{proofs.Common.{[], refl, sym, ◌∙◌, ap, subst, arith, length}, specs.Prelude.{Ok, Err}}
use Rattle.conf_session.proofs.{Prelude.{false≢true, err_from_is_err_and}, ReadLemmas.{longer-piece, none-unwritten, room-none, room-read}}
use Rattle.conf_session.proofs.{ReadLemmas.{at-piece, at-end}, GroupLemmas.{reopens, groups-none, groups-more, groups-tended, ends-well}}
use Rattle.conf_session.proofs.GroupLemmas.{ends-in_input, ends-failing, ends-tending, means-prefixes, sent-so-far, started, starts-failing}
use Rattle.conf_session.proofs.{GroupLemmas.starts-without-memory, PerformedLemmas.performed-sound, SessionLemmas.runs-by}
use Rattle.conf_session.specs.{declared.groups.Checkpoints.Checkpoints, Gathering.Tends, Groups.answers_limit, Input.{ahead, bytes_read}}
use Rattle.conf_session.proofs.groups.run_groups.Goals as goal

pub returns-then-needs_reopen-clause-runs : goal.returns-then-needs_reopen-clause-runs
returns-then-needs_reopen-clause-runs g c =
    let hands = g.S.AnswerSink.handings in
    let d = g.D.Disk in
    let given = g.R.Read.remaining c.args.reader.now in
    let held = g.S.AnswerSink.taken c.args.sink.now in
    let store = c.args.store.now in
    let on = sym c.needs_reopen.ensures.reopen ∙ c.if-needs_reopen.true in
    runs-by d.model c.args.grouping (hands c.args.sink.now) (hands c.args.sink.now) given given held held store store _
    (reopens d.model c.args.grouping (hands c.args.sink.now) given held store (λ off. false≢true (sym off ∙ on)))

pub returns-in_err-start-clause-runs : goal.returns-in_err-start-clause-runs
returns-in_err-start-clause-runs g c =
    let hands = g.S.AnswerSink.handings in
    let d = g.D.Disk in
    let given = g.R.Read.remaining c.args.reader.now in
    let held = g.S.AnswerSink.taken c.args.sink.now in
    let f = c.in_err-start.field-0.0 in
    let ends = runs-by d.model c.args.grouping (hands c.args.sink.now)
    (hands c.args.sink.now) given given held held c.args.store.now c.start.new.store (Err f)
    (starts-failing d.model c.args.grouping
    (hands c.args.sink.now) given held c.args.store.now c.start.new.store f c.in_err-start.ensures.starts
    (λ t image h le is. g.met.D.Disk.counts_now c.start.new.store.disk t image h le is)) in
    let p = err_from_is_err_and c.from_residual.result c.from_residual.ensures.1 in
    rw (p.1, p.2) ends

pub returns-in_err-input-clause-runs : goal.returns-in_err-input-clause-runs
returns-in_err-input-clause-runs g c =
    let hands = g.S.AnswerSink.handings in
    let d = g.D.Disk in
    let old = c.args.store.now in
    let given = g.R.Read.remaining c.args.reader.now in
    let held = g.S.AnswerSink.taken c.args.sink.now in
    let off = sym c.needs_reopen.ensures.reopen ∙ c.if-needs_reopen.false in
    let ends = runs-by d.model c.args.grouping (hands c.args.sink.now) (hands c.args.sink.now) given given held held old c.start.new.store _
    (starts-without-memory d.model c.args.grouping (hands c.args.sink.now) given held old c.start.new.store
    (started d.model c.args.grouping (hands c.args.sink.now) old c.start.new.store c.in_ok-start.ensures.starts off
    (λ image h is. g.met.D.Disk.only_now old.disk image h is) c.needs_reopen.ensures.now)) in
    let p = err_from_is_err_and c.from_residual-in_err-input.result c.from_residual-in_err-input.ensures.1 in
    rw (p.1, p.2) ends

pub groups-init : goal.groups-init
groups-init g c =
    let hands = g.S.AnswerSink.handings in
    let d = g.D.Disk in
    let old = c.args.store.now in
    let begin = c.in_ok-input.ensures in
    let zero = c.new-answers.ensures in
    let answers = c.new-answers.result in
    let off = sym c.needs_reopen.ensures.reopen ∙ c.if-needs_reopen.false in
    let performs = started d.model c.args.grouping (hands c.args.sink.now) old c.start.new.store c.in_ok-start.ensures.starts off
    (λ image h is. g.met.D.Disk.only_now old.disk image h is) c.needs_reopen.ensures.now in
    record {
      off = off;
      sound = performed-sound d.model c.args.grouping old c.start.new.store [] off performs;
      input = begin.0;
      so_far = groups-none d.model c.args.grouping (hands c.args.sink.now) (g.R.Read.remaining c.args.reader.now)
          (g.S.AnswerSink.taken c.args.sink.now) old c.start.new.store
          (ahead c.in_ok-input.input) answers (bytes_read c.in_ok-input.input) performs begin.1 zero.documents
          zero.accepted zero.refused zero.written begin.2;
      no_last = zero.last;
      limit = zero.limit ∙ c.answers_limit.ensures;
      none = none-unwritten answers zero.text zero.last;
      room = room-none c.in_ok-input.input answers begin.0 begin.1 begin.2 zero.text zero.last zero.documents
          zero.accepted zero.refused zero.written;
      risen = c.start.ensures.failures.risen;
    }

pub returns-in_err-advance-clause-runs : goal.returns-in_err-advance-clause-runs
returns-in_err-advance-clause-runs g c =
    let hands = g.S.AnswerSink.handings in
    let d = g.D.Disk in
    let given = g.R.Read.remaining in
    let held = g.S.AnswerSink.taken in
    let f = c.in_err-advance.field-0.0 in
    let ends = runs-by d.model c.args.grouping (hands c.args.sink.now) (hands c.groups.sink) (given c.args.reader.now)
    (given c.advance.new.reader)
    (held c.args.sink.now) (held c.groups.sink) c.args.store.now c.groups.store (Err f)
    (ends-in_input d.model c.args.grouping (hands c.args.sink.now) (hands c.groups.sink) (given c.args.reader.now)
    (given c.groups.reader) (given c.advance.new.reader)
    (held c.args.sink.now) (held c.groups.sink) c.args.store.now c.groups.store c.groups.input c.advance.new.self
    c.groups.answers c.groups.invariant.so_far f c.in_err-advance.ensures) in
    let p = err_from_is_err_and c.from_residual-in_err-advance.result c.from_residual-in_err-advance.ensures.1 in
    rw (p.1, p.2) ends

pub perform_group-requires-clause-can : goal.perform_group-requires-clause-can
perform_group-requires-clause-can g c =
    let hands = g.S.AnswerSink.handings in
    let given = g.R.Read.remaining in
    let held = g.S.AnswerSink.taken in
    let inv = c.groups.invariant in
    let advances = at-piece (given c.groups.reader)
    (given c.advance.new.reader) c.groups.input c.advance.new.self _ c.in_ok-advance.ensures c.if-branch.true in
    record {
      sound = inv.sound;
      means = means-prefixes g.D.Disk.model c.args.grouping (hands c.args.sink.now) (hands c.groups.sink) (given c.args.reader.now)
          (given c.groups.reader) (given c.groups.reader)
          (held c.args.sink.now) (held c.groups.sink) c.args.store.now c.groups.store c.groups.input c.groups.input c.groups.answers
          inv.so_far;
      piece = record { sound = advances.sound; piece = advances.piece; short = advances.short };
      no_last = inv.no_last;
      room = room-read (given c.groups.reader) (given c.advance.new.reader) c.groups.input c.advance.new.self
          c.groups.answers inv.room advances;
    }

pub perform_group-requires-clause-sent : goal.perform_group-requires-clause-sent
perform_group-requires-clause-sent g c =
    let hands = g.S.AnswerSink.handings in
    let given = g.R.Read.remaining in
    let held = g.S.AnswerSink.taken in
    sent-so-far g.D.Disk.model c.args.grouping (hands c.args.sink.now) (hands c.groups.sink) (given c.args.reader.now)
    (given c.groups.reader) (given c.groups.reader)
    (held c.args.sink.now) (held c.groups.sink) c.args.store.now c.groups.store c.groups.input c.groups.input c.groups.answers
    c.groups.invariant.so_far

pub returns-in_err-perform_group-clause-runs : goal.returns-in_err-perform_group-clause-runs
returns-in_err-perform_group-clause-runs g c =
    let hands = g.S.AnswerSink.handings in
    let d = g.D.Disk in
    let given = g.R.Read.remaining in
    let held = g.S.AnswerSink.taken in
    let inv = c.groups.invariant in
    let new = c.perform_group.new in
    let advances = at-piece (given c.groups.reader)
    (given c.advance.new.reader) c.groups.input c.advance.new.self _ c.in_ok-advance.ensures c.if-branch.true in
    let out = inv.room.out in
    let f = c.in_err-perform_group.field-0.0 in
    let ends = runs-by d.model c.args.grouping (hands c.args.sink.now) (hands new.sink) (given c.args.reader.now)
    (given c.advance.new.reader)
    (held c.args.sink.now) (held new.sink) c.args.store.now new.store (Err f)
    (ends-failing d.model c.args.grouping (hands c.args.sink.now) (hands c.groups.sink) (given c.args.reader.now) (given c.groups.reader)
    (given c.advance.new.reader)
    (held c.args.sink.now) (held c.groups.sink) c.args.store.now c.groups.store c.groups.input c.advance.new.self
    c.groups.answers inv.so_far advances
    (hands new.sink) (held new.sink) new.store new.input new.answers f c.in_err-perform_group.ensures.performs
    (λ e. inv.limit ∙ ap answers_limit e) (omega (arith, out))
    (λ t image h le is. g.met.D.Disk.counts_now new.store.disk t image h le is)
    (λ image h is. g.met.D.Disk.only_now new.store.disk image h is)) in
    let p = err_from_is_err_and c.from_residual-in_err-perform_group.result c.from_residual-in_err-perform_group.ensures.1 in
    rw (p.1, p.2) ends

pub groups-smaller : goal.groups-smaller
groups-smaller g c =
    let given = g.R.Read.remaining in
    let advances = at-piece (given c.groups.reader)
    (given c.advance.new.reader) c.groups.input c.advance.new.self _ c.in_ok-advance.ensures c.if-branch.true in
    let longer = longer-piece (given c.groups.reader) (given c.advance.new.reader) c.groups.input c.advance.new.self advances in
    let within = advances.sound.total in
    let less = c.in_ok-perform_group.ensures.goes_on.less in
    let read = c.in_ok-perform_group.ensures.goes_on.read in
    omega (arith, longer, within, less, read)

pub groups-preserved : goal.groups-preserved
groups-preserved g c =
    let hands = g.S.AnswerSink.handings in
    let d = g.D.Disk in
    let given = g.R.Read.remaining in
    let held = g.S.AnswerSink.taken in
    let inv = c.groups.invariant in
    let advances = at-piece (given c.groups.reader)
    (given c.advance.new.reader) c.groups.input c.advance.new.self _ c.in_ok-advance.ensures c.if-branch.true in
    let new = c.perform_group.new in
    let last = c.tend_checkpoint.new.store in
    let performs = c.in_ok-perform_group.ensures.performs in
    let so_far = groups-more d.model c.args.grouping (hands c.args.sink.now) (hands c.groups.sink) (given c.args.reader.now)
    (given c.groups.reader) (given c.advance.new.reader)
    (held c.args.sink.now) (held c.groups.sink) c.args.store.now c.groups.store c.groups.input c.advance.new.self
    c.groups.answers inv.so_far advances
    (hands new.sink) (held new.sink) new.store new.answers (ahead new.input) (bytes_read new.input)
    c.in_ok-perform_group.ensures.goes_on.read performs.4 (λ image h is. g.met.D.Disk.only_now new.store.disk image h is) in
    let tends = subst (λ (k : Checkpoints). Tends d.model k new.store last (Ok tt)) c.checkpoints.ensures
    c.in_ok-tend_checkpoint.ensures.tends in
    record {
      off = inv.off;
      sound = tends.1.3.sound;
      input = performs.0;
      so_far = groups-tended d.model c.args.grouping (hands c.args.sink.now) (hands new.sink) (given c.args.reader.now)
          (given c.advance.new.reader) (given c.advance.new.reader)
          (held c.args.sink.now) (held new.sink) c.args.store.now new.store new.input new.input new.answers so_far last tends;
      no_last = performs.2;
      limit = performs.3 ∙ inv.limit;
      none = performs.1;
      room = c.in_ok-perform_group.ensures.goes_on.room;
      risen = omega (arith, inv.risen, c.perform_group.ensures.failures.risen, c.tend_checkpoint.ensures.failures.risen);
    }

pub returns-in_err-tend_checkpoint-clause-runs : goal.returns-in_err-tend_checkpoint-clause-runs
returns-in_err-tend_checkpoint-clause-runs g c =
    let hands = g.S.AnswerSink.handings in
    let d = g.D.Disk in
    let given = g.R.Read.remaining in
    let held = g.S.AnswerSink.taken in
    let inv = c.groups.invariant in
    let advances = at-piece (given c.groups.reader)
    (given c.advance.new.reader) c.groups.input c.advance.new.self _ c.in_ok-advance.ensures c.if-branch.true in
    let new = c.perform_group.new in
    let last = c.tend_checkpoint.new.store in
    let performs = c.in_ok-perform_group.ensures.performs in
    let so_far = groups-more d.model c.args.grouping (hands c.args.sink.now) (hands c.groups.sink) (given c.args.reader.now)
    (given c.groups.reader) (given c.advance.new.reader)
    (held c.args.sink.now) (held c.groups.sink) c.args.store.now c.groups.store c.groups.input c.advance.new.self
    c.groups.answers inv.so_far advances
    (hands new.sink) (held new.sink) new.store new.answers (ahead new.input) (bytes_read new.input)
    c.in_ok-perform_group.ensures.goes_on.read performs.4 (λ image h is. g.met.D.Disk.only_now new.store.disk image h is) in
    let f = c.in_err-tend_checkpoint.field-0.0 in
    let tends = subst (λ (k : Checkpoints). Tends d.model k new.store last (Err f)) c.checkpoints.ensures
    c.in_err-tend_checkpoint.ensures.tends in
    let ends = runs-by d.model c.args.grouping (hands c.args.sink.now) (hands new.sink) (given c.args.reader.now)
    (given c.advance.new.reader)
    (held c.args.sink.now) (held new.sink) c.args.store.now last (Err f)
    (ends-tending d.model c.args.grouping (hands c.args.sink.now) (hands new.sink) (given c.args.reader.now) (given c.advance.new.reader)
    (given c.advance.new.reader)
    (held c.args.sink.now) (held new.sink) c.args.store.now new.store new.input new.input new.answers so_far last f tends
    (λ t image h le is. g.met.D.Disk.counts_now last.disk t image h le is)) in
    let p = err_from_is_err_and c.from_residual-in_err-tend_checkpoint.result c.from_residual-in_err-tend_checkpoint.ensures.1 in
    rw (p.1, p.2) ends

pub returns-clause-runs : goal.returns-clause-runs
returns-clause-runs g c =
    let hands = g.S.AnswerSink.handings in
    let d = g.D.Disk in
    let given = g.R.Read.remaining in
    let held = g.S.AnswerSink.taken in
    let end = at-end (given c.groups.reader) (given c.advance.new.reader) c.groups.input c.advance.new.self _
    c.in_ok-advance.ensures c.if-branch.false in
    runs-by d.model c.args.grouping (hands c.args.sink.now) (hands c.groups.sink) (given c.args.reader.now) (given c.advance.new.reader)
    (held c.args.sink.now) (held c.groups.sink) c.args.store.now c.groups.store _
    (ends-well d.model c.args.grouping (hands c.args.sink.now) (hands c.groups.sink) (given c.args.reader.now) (given c.groups.reader)
    (given c.advance.new.reader)
    (held c.args.sink.now) (held c.groups.sink) c.args.store.now c.groups.store
    c.groups.input c.advance.new.self c.groups.answers c.groups.invariant.so_far
    _ end refl refl refl (ap length c.piece.ensures))
