use Rattle.yaml_recognizers.proofs.OneStyle.PiecesFound.{piece_between, rest_unclosed}
use Rattle.yaml_recognizers.proofs.closings.piece_between_closings.Goals as goal

pub returns-clause-piece : goal.returns-clause-piece
returns-clause-piece c = piece_between

pub returns-clause-rest : goal.returns-clause-rest
returns-clause-rest c = rest_unclosed
