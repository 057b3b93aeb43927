use Rattle.yaml_recognizers.proofs.Flow.FlowNodesFound.{once}
use Rattle.yaml_recognizers.proofs.flow_nodes.flow_node_once.Goals as goal

pub returns : goal.returns
returns c = once
