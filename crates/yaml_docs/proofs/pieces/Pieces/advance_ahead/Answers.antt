-- The bytes ahead close a piece, so it is there once they are taken in.
use Rattle.std.{proofs.Common.{refl, sym, ap, subst}, specs.Prelude.{Ok, Err}}
use Rattle.yaml_docs.{specs.{Cutting.Unclosed, PieceReading.{piece_limit, input_limit}}, proofs.PieceReads.{feeds-at, cleared-sound}}
use Rattle.yaml_docs.proofs.PieceReads.{unclosed-none, advances-ahead, fails-ahead}
use Rattle.yaml_docs.proofs.pieces.Pieces.advance_ahead.Goals as goal

pub feed-requires-clause-unclosed : goal.feed-requires-clause-unclosed
feed-requires-clause-unclosed c = subst Unclosed (sym (ap (λ h. h.bytes) c.clear.ensures)) unclosed-none

pub returns-in-Ok : goal.returns-in-Ok
returns-in-Ok c = advances-ahead (piece_limit c.args.self.now) (input_limit c.args.self.now) c.args.self.now
    (record c.args.self.now { cutter = c.clear.new.self }) c.feed.new.self
    (ap (λ h. h.bytes) c.clear.ensures) refl c.requires.ahead refl c.in-Ok.field-0
    (feeds-at (piece_limit c.args.self.now) (input_limit c.args.self.now)
    (record c.args.self.now { cutter = c.clear.new.self }) c.feed.new.self
    (cleared-sound (piece_limit c.args.self.now)
    (input_limit c.args.self.now) c.args.self.now c.clear.new.self c.requires.sound
    (ap (λ h. h.max) c.clear.ensures)) (Ok c.in-Ok.field-0) c.in-Ok.ensures)

pub returns-in-Err : goal.returns-in-Err
returns-in-Err c = fails-ahead (piece_limit c.args.self.now) (input_limit c.args.self.now) c.args.self.now
    (record c.args.self.now { cutter = c.clear.new.self }) c.feed.new.self
    (ap (λ h. h.bytes) c.clear.ensures) refl c.requires.sound c.in-Err.fault
    (feeds-at (piece_limit c.args.self.now) (input_limit c.args.self.now)
    (record c.args.self.now { cutter = c.clear.new.self }) c.feed.new.self
    (cleared-sound (piece_limit c.args.self.now)
    (input_limit c.args.self.now) c.args.self.now c.clear.new.self c.requires.sound
    (ap (λ h. h.max) c.clear.ensures)) (Err c.in-Err.fault) c.in-Err.ensures)
