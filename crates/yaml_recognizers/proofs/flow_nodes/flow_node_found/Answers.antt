use Rattle.yaml_recognizers.proofs.Flow.FlowNodesFound.{found}
use Rattle.yaml_recognizers.proofs.flow_nodes.flow_node_found.Goals as goal

pub returns : goal.returns
returns c = found
