use Rattle.yaml_recognizers.proofs.Flow.{FlowNodesWider.flow_wider, FlowNodesNarrower.{flow_narrower, flow_key_line}}
use Rattle.yaml_recognizers.proofs.flow_nodes.flow_node_as_key.Goals as goal

pub returns-clause-wider : goal.returns-clause-wider
returns-clause-wider c = λ f n m c d bol after w h. flow_wider f n m c d bol after w h

pub returns-clause-narrower : goal.returns-clause-narrower
returns-clause-narrower c = λ f n m c d bol after w o h. flow_narrower f n m d c bol after w o h

pub returns-clause-line : goal.returns-clause-line
returns-clause-line c = flow_key_line
