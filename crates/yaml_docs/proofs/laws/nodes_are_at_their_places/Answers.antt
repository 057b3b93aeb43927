use Rattle.yaml_docs.proofs.NodesInBytes.{nodes_at_their_places}
use Rattle.yaml_docs.proofs.laws.nodes_are_at_their_places.Goals as goal

pub returns : goal.returns
returns c = nodes_at_their_places
