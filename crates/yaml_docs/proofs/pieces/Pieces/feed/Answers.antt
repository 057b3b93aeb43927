-- What the cutter takes is no longer ahead.
use Rattle.std.{proofs.Common.ap, specs.Prelude.Err}
use Rattle.yaml_docs.{specs.PieceReading.{piece_limit, input_limit}, proofs.PieceReads.{feeds, overfed}}
use Rattle.yaml_docs.proofs.pieces.Pieces.feed.Goals as goal

pub returns-in-Ok : goal.returns-in-Ok
returns-in-Ok c = feeds (piece_limit c.args.self.now)
    (input_limit c.args.self.now) c.args.self.now c.deref.result.now c.feed.new.self c.in-Ok.fed c.requires.sound
    c.deref.ensures.value c.in-Ok.ensures.ok c.in-Ok.ensures.short

pub returns-in-Err-TooLong : goal.returns-in-Err-TooLong
returns-in-Err-TooLong c =
    overfed (piece_limit c.args.self.now) (input_limit c.args.self.now) c.args.self.now c.deref.result.now
    c.requires.sound c.deref.ensures.value (c.in-Err-TooLong.ensures.too_long (ap Err c.in-Err-TooLong.field-0-is))
