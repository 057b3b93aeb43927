use Rattle.yaml_recognizers.proofs.Flow.FlowNodesFound.{ends_here}
use Rattle.yaml_recognizers.proofs.flow_nodes.flow_node_ends.Goals as goal

pub returns : goal.returns
returns c = ends_here
