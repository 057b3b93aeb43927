-- Each turn performs one piece. What was read closes the next one, or the group ends.
use Rattle.std.{proofs.Common.{◌++◌, List, ℕ, length, refl, sym, ◌∙◌, subst, arith}, specs.Prelude.Err}
use Rattle.conf_session.proofs.{Prelude.err_from_is_err_and, GatherLemmas.{submits-none, submits-more, submits-failing, submits-starved}}
use Rattle.conf_session.proofs.{GatherLemmas.{some-more, has-room, not-full, shorter-piece}, RequestLemmas.{failures-after, failures-none}}
use Rattle.conf_session.specs.{Input.{piece_or_rest as piece_of, AdvancesWithin, ahead, bytes_read}, Gathering.{HasRoomFor, GathersPieces}}
use Rattle.conf_session.proofs.groups.submit_group.Goals as goal

pub pieces-init : goal.pieces-init
pieces-init g c =
    let d = g.D.Disk in
    let store = c.args.store.now in
    record {
      sound = c.requires.can.sound;
      piece = c.requires.can.piece;
      no_last = c.requires.can.no_last;
      room = c.requires.can.room;
      read = refl;
      less = omega arith;
      first = λ e. refl;
      so_far = submits-none d.model store (piece_of c.args.input.now ++ ahead c.args.input.now) c.args.answers.now
          c.requires.can.sound c.requires.can.room.within
          (λ image h is. g.met.D.Disk.only_now store.disk image h is) c.requires.can.means;
      risen = omega arith;
    }

pub returns-in_err-submit_piece-clause-submits : goal.returns-in_err-submit_piece-clause-submits
returns-in_err-submit_piece-clause-submits g c =
    let d = g.D.Disk in
    let inv = c.pieces.invariant in
    let bytes = piece_of c.args.input.now ++ ahead c.args.input.now in
    let ends = submits-failing d.model bytes (piece_of c.pieces.input)
    (ahead c.pieces.input) c.args.store.now c.pieces.store
    c.args.answers.now c.pieces.answers inv.so_far inv.first inv.piece.piece inv.piece.short c.submit_piece.new.store
    c.submit_piece.new.answers
    c.in_err-submit_piece.ensures.kept
    c.in_err-submit_piece.field-0.0 c.in_err-submit_piece.ensures.fails c.pieces.input in
    let p = err_from_is_err_and c.from_residual.result c.from_residual.ensures.1 in
    rw (p.1, p.2) ends

pub returns-then-is_full-clause-submits : goal.returns-then-is_full-clause-submits
returns-then-is_full-clause-submits g c =
    let d = g.D.Disk in
    let inv = c.pieces.invariant in
    let bytes = piece_of c.args.input.now ++ ahead c.args.input.now in (
      inv.piece.sound,
      some-more d.model bytes (piece_of c.pieces.input)
          (ahead c.pieces.input) c.args.store.now c.pieces.store c.args.answers.now c.pieces.answers inv.so_far inv.first
          inv.piece.piece inv.piece.short c.submit_piece.new.store c.submit_piece.new.answers c.in_ok-submit_piece.ensures.ok,
      submits-more d.model bytes (piece_of c.pieces.input)
          (ahead c.pieces.input) c.args.store.now c.pieces.store c.args.answers.now c.pieces.answers inv.so_far inv.first
          inv.piece.piece inv.piece.short c.submit_piece.new.store c.submit_piece.new.answers c.in_ok-submit_piece.ensures.ok,
    )

pub returns-then-is_full-clause-goes_on : goal.returns-then-is_full-clause-goes_on
returns-then-is_full-clause-goes_on g c =
    let inv = c.pieces.invariant in
    record { read = inv.read; less = inv.less; room = c.in_ok-submit_piece.ensures.room }

pub pieces-preserved : goal.pieces-preserved
pieces-preserved g c =
    let d = g.D.Disk in
    let inv = c.pieces.invariant in
    let bytes = piece_of c.args.input.now ++ ahead c.args.input.now in
    let new = c.submit_piece.new.store in
    let after = c.submit_piece.new.answers in
    let then = c.advance_ahead.new.self in
    let one = c.in_ok-submit_piece.ensures.ok in
    let advances : AdvancesWithin c.pieces.input then = c.in_ok-advance_ahead.ensures in
    let shorter = shorter-piece c.pieces.input then advances in
    record {
      sound = one.sound;
      piece = record { sound = advances.sound; piece = advances.piece; short = advances.short };
      no_last = not-full after.last _ c.is_full.result c.is_full.ensures c.if-is_full.false;
      room = subst (λ (n : ℕ). HasRoomFor after (length (piece_of then ++ ahead then)) n) (sym advances.total)
          (subst (λ (l : List ℕ). HasRoomFor after (length l) (bytes_read c.pieces.input)) advances.joined
          c.in_ok-submit_piece.ensures.room);
      read = advances.total ∙ inv.read;
      less = omega (arith, shorter, inv.less);
      first = λ e. absurd (has-room after c.is_full.result c.is_full.ensures c.if-is_full.false
          (one.keeps.limit ∙ inv.so_far.keeps.limit ∙ e));
      so_far = subst (λ (l : List ℕ). GathersPieces d.model bytes l c.args.store.now new c.args.answers.now after) advances.joined
          (submits-more d.model bytes (piece_of c.pieces.input)
          (ahead c.pieces.input) c.args.store.now c.pieces.store c.args.answers.now c.pieces.answers inv.so_far inv.first
          inv.piece.piece inv.piece.short new after one);
      risen = omega (arith, inv.risen, c.submit_piece.ensures.failures.risen);
    }

pub returns-in_err-advance_ahead-clause-submits : goal.returns-in_err-advance_ahead-clause-submits
returns-in_err-advance_ahead-clause-submits g c =
    let d = g.D.Disk in
    let inv = c.pieces.invariant in
    let bytes = piece_of c.args.input.now ++ ahead c.args.input.now in
    let new = c.submit_piece.new.store in
    let after = c.submit_piece.new.answers in
    let so_far = submits-more d.model bytes (piece_of c.pieces.input)
    (ahead c.pieces.input) c.args.store.now c.pieces.store c.args.answers.now c.pieces.answers inv.so_far inv.first
    inv.piece.piece inv.piece.short new after c.in_ok-submit_piece.ensures.ok in
    let ends = submits-starved d.model bytes (ahead c.pieces.input) c.args.store.now new c.args.answers.now after
    so_far c.pieces.input c.advance_ahead.new.self
    c.in_err-advance_ahead.field-0.0 c.in_err-advance_ahead.ensures c.advance_ahead.new.self in
    let p = err_from_is_err_and c.from_residual-in_err-advance_ahead.result c.from_residual-in_err-advance_ahead.ensures.1 in
    rw (p.1, p.2) ends

-- ---- failures of the device

pub returns-in_err-submit_piece-clause-failures : goal.returns-in_err-submit_piece-clause-failures
returns-in_err-submit_piece-clause-failures g c =
    let d = g.D.Disk in
    let all = failures-after d.model c.args.store.now c.pieces.store c.submit_piece.new.store
    (Err c.in_err-submit_piece.field-0.0) c.pieces.invariant.risen c.in_err-submit_piece.ensures.failures in
    let p = err_from_is_err_and c.from_residual.result c.from_residual.ensures.1 in
    rw (p.1, p.2) all

pub returns-then-is_full-clause-failures : goal.returns-then-is_full-clause-failures
returns-then-is_full-clause-failures g c =
    failures-none g.D.Disk.model c.args.store.now c.submit_piece.new.store _
    (omega (arith, c.pieces.invariant.risen, c.submit_piece.ensures.failures.risen)) (λ e. cc e)

pub returns-in_err-advance_ahead-clause-failures : goal.returns-in_err-advance_ahead-clause-failures
returns-in_err-advance_ahead-clause-failures g c =
    let p = err_from_is_err_and c.from_residual-in_err-advance_ahead.result c.from_residual-in_err-advance_ahead.ensures.1 in
    failures-none g.D.Disk.model c.args.store.now c.submit_piece.new.store c.from_residual-in_err-advance_ahead.result
    (omega (arith, c.pieces.invariant.risen, c.submit_piece.ensures.failures.risen))
    (λ e. cc (e, p.1, p.2, c.in_err-advance_ahead.ensures))
