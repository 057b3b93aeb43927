use Rattle.yaml_recognizers.{specs.FlowScalars.read_scalar, proofs.Flow.FlowNodesDepth.{flow_step, entries_step, entry_step, value_step}}
use Rattle.yaml_recognizers.proofs.Scalars.ScalarsInNodes.{reads_scalars}
use Rattle.yaml_recognizers.proofs.flow_nodes.flow_node_steps.Goals as goal

pub returns-clause-node : goal.returns-clause-node
returns-clause-node c = flow_step read_scalar reads_scalars

pub returns-clause-entries : goal.returns-clause-entries
returns-clause-entries c = entries_step read_scalar reads_scalars

pub returns-clause-entry : goal.returns-clause-entry
returns-clause-entry c = entry_step read_scalar reads_scalars

pub returns-clause-value : goal.returns-clause-value
returns-clause-value c = value_step read_scalar reads_scalars
