use Rattle.yaml_recognizers.proofs.Flow.FlowNodesFound.{stands}
use Rattle.yaml_recognizers.proofs.flow_nodes.flow_node_fits.Goals as goal

pub returns : goal.returns
returns c = stands
