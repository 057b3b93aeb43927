use Rattle.yaml_recognizers.proofs.Meanings.StandingNodes.{block_found, block_once, block_only, block_missing}
use Rattle.yaml_recognizers.proofs.block_nodes.block_node_stands.Goals as goal

pub returns-clause-found : goal.returns-clause-found
returns-clause-found c = block_found

pub returns-clause-once : goal.returns-clause-once
returns-clause-once c = block_once

pub returns-clause-only : goal.returns-clause-only
returns-clause-only c = block_only

pub returns-clause-missing : goal.returns-clause-missing
returns-clause-missing c = block_missing
