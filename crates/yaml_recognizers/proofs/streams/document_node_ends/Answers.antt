use Rattle.yaml_recognizers.proofs.Documents.DocumentEnds.{document_ends}
use Rattle.yaml_recognizers.proofs.streams.document_node_ends.Goals as goal

pub returns : goal.returns
returns c = document_ends
