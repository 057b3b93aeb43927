-- A piece is performed, and its answer is kept.
use Rattle.std.{proofs.Common.{List, ℕ, length, sym, ◌∙◌, ◌++◌, subst}, specs.Prelude.{Ok, Err}}
use Rattle.conf_session.proofs.{Prelude.{false≢true, err_from_is_err_and}, RequestLemmas.{failures-none, failures-told}}
use Rattle.conf_session.{proofs.GatherLemmas.{gathers, room-more, room-small}, specs.Input.{piece_or_rest as piece_of, ahead, bytes_read}}
use Rattle.conf_session.specs.{Requests.Asks, Replies.DidAsked, Gathering.{GathersPiece, LeavesPiece}}
use Rattle.conf_session.proofs.pieces.submit_piece.Goals as goal

pub returns-then-needs_reopen-clause-fails : goal.returns-then-needs_reopen-clause-fails
returns-then-needs_reopen-clause-fails g c =
    absurd (false≢true (sym c.requires.sound ∙ (sym c.needs_reopen.ensures.reopen ∙ c.if-needs_reopen.true)))

pub returns-then-needs_reopen-clause-small : goal.returns-then-needs_reopen-clause-small
returns-then-needs_reopen-clause-small g c =
    room-small c.args.answers.now (length (piece_of c.args.input.now ++ ahead c.args.input.now))
    (bytes_read c.args.input.now) c.requires.room

pub returns-then-needs_reopen-clause-failures : goal.returns-then-needs_reopen-clause-failures
returns-then-needs_reopen-clause-failures g c =
    absurd (false≢true (sym c.requires.sound ∙ (sym c.needs_reopen.ensures.reopen ∙ c.if-needs_reopen.true)))

pub returns-in_err-reply-clause-fails : goal.returns-in_err-reply-clause-fails
returns-in_err-reply-clause-fails g c =
    let d = g.D.Disk in
    let f = c.in_err-reply.field-0.0 in
    let fails : LeavesPiece d.model c.args.store.now c.answer_piece.new.store (piece_of c.args.input.now) f =
    subst (λ (p : List ℕ). LeavesPiece d.model c.args.store.now c.answer_piece.new.store p f) c.piece.ensures
    (c.in_err-reply.ensures.did c.requires.sound) in
    let p = err_from_is_err_and c.from_residual.result c.from_residual.ensures.1 in
    rw (p.1, p.2) fails

pub returns-in_err-reply-clause-small : goal.returns-in_err-reply-clause-small
returns-in_err-reply-clause-small g c = room-small c.args.answers.now
    (length (piece_of c.args.input.now ++ ahead c.args.input.now)) (bytes_read c.args.input.now) c.requires.room

pub returns-in_err-reply-clause-failures : goal.returns-in_err-reply-clause-failures
returns-in_err-reply-clause-failures g c =
    let p = err_from_is_err_and c.from_residual.result c.from_residual.ensures.1 in
    failures-told g.D.Disk.model c.args.store.now c.answer_piece.new.store
    (Err c.in_err-reply.field-0.0) c.from_residual.result (λ e. cc (e, p.1, p.2)) c.in_err-reply.ensures.failures

pub returns : goal.returns
returns g c =
    let d = g.D.Disk in
    let input = c.args.input.now in
    let old = c.args.store.now in
    let new = c.answer_piece.new.store in
    let after = c.keep.new.self in
    let one : GathersPiece d.model old new (piece_of input) c.args.answers.now after =
    gathers d.model old new (piece_of input) c.args.answers.now after c.in_ok-reply.reply
    (subst (λ (p : List ℕ). DidAsked d.model old new (Asks p) (Ok c.in_ok-reply.reply)) c.piece.ensures
    (c.in_ok-reply.ensures.did c.requires.sound)) c.keep.ensures in
    let room = room-more d.model old new (piece_of input) (ahead input) c.args.answers.now after
    (bytes_read input) c.requires.piece.piece c.requires.room one in
    record {
      ok = one;
      fails = tt;
      kept = tt;
      room = room;
      small = room-small after (length (ahead input)) (bytes_read input) room;
      failures = failures-none d.model old new _ c.answer_piece.ensures.failures.risen (λ e. cc e);
    }
