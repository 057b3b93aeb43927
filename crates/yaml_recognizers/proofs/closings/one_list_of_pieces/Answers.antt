use Rattle.yaml_recognizers.proofs.{OneStyle.PieceLists.one_list, OneStyle.PiecesFound.some_pieces}
use Rattle.yaml_recognizers.proofs.closings.one_list_of_pieces.Goals as goal

pub returns-clause-some : goal.returns-clause-some
returns-clause-some c = some_pieces

pub returns-clause-one : goal.returns-clause-one
returns-clause-one c = one_list
