-- Each turn performs and answers one piece. The flush comes last.
use Rattle.std.{proofs.Common.{◌≡◌, ◌≤◌, ◌+◌, false, refl, sym, ◌∙◌, ap, subst, arith, length}, specs.Prelude.{ℕ, List, [], ◌∷◌, ◌++◌}}
use Rattle.std.specs.Prelude.{take}
use Rattle.conf_session.proofs.{Prelude.err_from_is_err_and, RoundLemmas.{RoundSoFar, round-none, round-more, next-piece, all-pieces}}
use Rattle.conf_session.{proofs.RoundLemmas.{one-more, ends-failing, ends-flushed, ends-unflushed}, specs.Answers.answer_bytes as answer_to}
use Rattle.conf_session.specs.{Runs.stored_of, Rounds.{answer_bytes, piece_bytes}}
use Rattle.conf_session.proofs.rounds.round.Goals as goal

pub turns-init : goal.turns-init
turns-init g c =
    let d = g.D.Disk in
    let store = c.args.store.now in
    let off : store.reopen ≡ false = sym c.needs_reopen.ensures.reopen ∙ c.if-needs_reopen.false in
    let none : c.new-answers.result.items ≡ [] = c.new-answers.ensures.items in
    record {
      off = off;
      sound = off;
      so_far = subst (λ (l : List (List ℕ)). RoundSoFar d.model store store [] l) (sym (ap answer_bytes none))
          (round-none d.model store off (λ image h is. g.met.D.Disk.only_now store.disk image h is) c.needs_reopen.ensures.now);
      risen = omega arith;
      few = ap length none;
    }

pub returns-in_err-take_piece-clause-rounds : goal.returns-in_err-take_piece-clause-rounds
returns-in_err-take_piece-clause-rounds g c =
    let d = g.D.Disk in
    let inv = c.turns.invariant in
    let i = c.turns.piece-index in
    let piece = c.piece-item.result in
    let next = next-piece c.args.pieces.now i piece c.piece-item.is c.turns-test.true in
    let ends = ends-failing d.model c.args.store.now c.turns.store c.take_piece.new.store
    (answer_bytes c.turns.answers.items) (piece_bytes c.args.pieces.now) i
    piece.bytes.items c.in_err-take_piece.field-0.0 inv.so_far next.0 next.1 (length c.turns.answers.items) inv.few
    (c.in_err-take_piece.ensures.fails inv.sound)
    (λ t image h le is. g.met.D.Disk.counts_now c.take_piece.new.store.disk t image h le is) in
    let p = err_from_is_err_and c.from_residual.result c.from_residual.ensures.1 in
    rw (p.1, p.2) ends

pub turns-preserved : goal.turns-preserved
turns-preserved g c =
    let d = g.D.Disk in
    let inv = c.turns.invariant in
    let old = c.args.store.now in
    let now = c.turns.store in
    let new = c.take_piece.new.store in
    let i = c.turns.piece-index in
    let all = piece_bytes c.args.pieces.now in
    let piece = c.piece-item.result.bytes.items in
    let next = next-piece c.args.pieces.now i c.piece-item.result c.piece-item.is c.turns-test.true in
    let one = c.in_ok-take_piece.ensures.ok inv.sound in
    let r = one.takes.request in
    record {
      off = inv.off;
      sound = one.sound;
      so_far = subst (λ (ps : List (List ℕ)). RoundSoFar d.model old new ps (answer_bytes c.take_piece.new.answers.items)) (sym next.1)
          (subst (λ (l : List (List ℕ)). RoundSoFar d.model old new (take i all ++ piece ∷ []) l) (sym one.answered)
          (round-more d.model old now (take i all) (answer_bytes c.turns.answers.items) inv.so_far new piece r
          one.takes.asks one.takes.performs one.sound));
      risen = omega (arith, inv.risen, c.take_piece.ensures.risen);
      few = one-more c.turns.answers.items c.take_piece.new.answers.items (answer_to (stored_of now) r) one.answered
          ∙ ap (λ n. n + 1) inv.few;
    }

pub returns-in-Ok-clause-rounds : goal.returns-in-Ok-clause-rounds
returns-in-Ok-clause-rounds g c =
    let d = g.D.Disk in
    let inv = c.turns.invariant in
    let i = c.turns.piece-index in
    let all = piece_bytes c.args.pieces.now in
    let long = all-pieces c.args.pieces.now in
    let upto : i ≤ length c.args.pieces.now = c.turns.auto.piece-index-end in
    let past : length c.args.pieces.now ≤ i = c.turns-test.false in
    ends-flushed d.model c.args.store.now c.turns.store (take i all)
    (answer_bytes c.turns.answers.items) inv.so_far all i (omega (arith, long, upto)) refl (omega (arith, long, upto, past))
    c.flush_all.new.store c.turns.answers refl c.in-Ok.ensures.flushes

pub returns-in-Err-clause-rounds : goal.returns-in-Err-clause-rounds
returns-in-Err-clause-rounds g c =
    let d = g.D.Disk in
    let inv = c.turns.invariant in
    let i = c.turns.piece-index in
    let all = piece_bytes c.args.pieces.now in
    let long = all-pieces c.args.pieces.now in
    let upto : i ≤ length c.args.pieces.now = c.turns.auto.piece-index-end in
    let past : length c.args.pieces.now ≤ i = c.turns-test.false in
    let new = c.flush_all.new.store in
    ends-unflushed d.model c.args.store.now c.turns.store (take i all)
    (answer_bytes c.turns.answers.items) inv.so_far all i (omega (arith, long, upto)) refl (omega (arith, long, upto, past))
    new c.in-Err.ensures.flushes.1 (λ t image h le is. g.met.D.Disk.counts_now new.disk t image h le is)
