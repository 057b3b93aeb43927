use Rattle.yaml_recognizers.{specs.FlowScalars.read_scalar, proofs.{Flow.FlowNodesDepth.any_depth, Scalars.ScalarsInNodes.reads_scalars}}
use Rattle.yaml_recognizers.proofs.flow_nodes.flow_node_any_depth.Goals as goal

pub returns : goal.returns
returns c = any_depth read_scalar reads_scalars
