use Rattle.yaml_recognizers.proofs.OneStyle.{FramedClosings.{framed_once, torn_closings}, PieceLists.torn_pieces}
use Rattle.yaml_recognizers.proofs.closings.closed_once.Goals as goal

pub returns-clause-once : goal.returns-clause-once
returns-clause-once c = framed_once

pub returns-clause-torn : goal.returns-clause-torn
returns-clause-torn c = torn_closings

pub returns-clause-pieces : goal.returns-clause-pieces
returns-clause-pieces c = torn_pieces
