use Rattle.yaml_recognizers.proofs.Zeroed.Pieces.{no_closing_made, pieces_left, holes_after, whole_behind, cuts_are_zeroed}
use Rattle.yaml_recognizers.proofs.zeros.zeros_close_nothing.Goals as goal

pub returns-clause-none : goal.returns-clause-none
returns-clause-none c = no_closing_made

pub returns-clause-left : goal.returns-clause-left
returns-clause-left c = pieces_left

pub returns-clause-holes : goal.returns-clause-holes
returns-clause-holes c = holes_after

pub returns-clause-behind : goal.returns-clause-behind
returns-clause-behind c = whole_behind

pub returns-clause-cuts : goal.returns-clause-cuts
returns-clause-cuts c = cuts_are_zeroed
