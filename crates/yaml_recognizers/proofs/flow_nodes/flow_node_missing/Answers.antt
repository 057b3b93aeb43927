use Rattle.yaml_recognizers.proofs.Flow.FlowNodesFound.{missing}
use Rattle.yaml_recognizers.proofs.flow_nodes.flow_node_missing.Goals as goal

pub returns : goal.returns
returns c = missing
