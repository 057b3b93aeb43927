use Rattle.yaml_recognizers.proofs.Meanings.{NodePlaces.stream_stand, NodesSpelled.stream_spelled, NodesStart.stream_starts}
use Rattle.yaml_recognizers.proofs.texts.nodes_stand.Goals as goal

pub returns-clause-spelled : goal.returns-clause-spelled
returns-clause-spelled c = stream_spelled

pub returns-clause-starts : goal.returns-clause-starts
returns-clause-starts c = stream_starts

pub returns-clause-stand : goal.returns-clause-stand
returns-clause-stand c = stream_stand
