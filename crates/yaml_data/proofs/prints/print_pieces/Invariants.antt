use Rattle.std.proofs.Common.{◌≡◌, drop}
use Rattle.yaml_data.specs.Prints.{print_pieces}
use Rattle.yaml_data.proofs.prints.print_pieces.Given as goal

-- with the pieces that are left it becomes the print of all
abbrev pub invariant-loop-piece : goal.invariant-loop-piece
invariant-loop-piece l = print_pieces l.print (drop l.piece-index l.pieces) ≡ print_pieces l.before l.pieces
