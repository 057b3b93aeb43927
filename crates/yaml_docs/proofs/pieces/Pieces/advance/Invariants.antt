-- What was read is the piece so far and what is not looked at yet.
use Rattle.std.proofs.Common.{◌-◌}
use Rattle.yaml_docs.{specs.PieceReading.{IsSound, piece_limit, input_limit}, proofs.PieceReads.SoFar}
use Rattle.yaml_docs.proofs.pieces.Pieces.advance.Given as goal

abbrev pub invariant-parts : goal.invariant-parts
invariant-parts g l = record {
  sound : IsSound (piece_limit l.fn.self) (input_limit l.fn.self) l.self;
  so_far : SoFar (g.R.Read.remaining l.fn.reader) (g.R.Read.remaining l.reader) l.fn.self l.self;
}

abbrev pub decreases-parts : goal.decreases-parts
decreases-parts g l = input_limit l.fn.self - l.self.total
