use Rattle.yaml_recognizers.proofs.Meanings.StandingNodes.{flow_found, flow_only, flow_missing}
use Rattle.yaml_recognizers.proofs.flow_nodes.flow_node_stands.Goals as goal

pub returns-clause-found : goal.returns-clause-found
returns-clause-found c = flow_found

pub returns-clause-only : goal.returns-clause-only
returns-clause-only c = flow_only

pub returns-clause-missing : goal.returns-clause-missing
returns-clause-missing c = flow_missing
