use Rattle.yaml_recognizers.proofs.Documents.NestedStreams.{nested_presents, nested_means}
use Rattle.yaml_recognizers.proofs.streams.stream_presents.Goals as goal

pub returns-clause-presents : goal.returns-clause-presents
returns-clause-presents c = nested_presents

pub returns-clause-means : goal.returns-clause-means
returns-clause-means c = nested_means
