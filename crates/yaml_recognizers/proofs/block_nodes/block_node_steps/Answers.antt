use Rattle.yaml_recognizers.proofs.Meanings.Steps.{node_steps, items_steps, pairs_steps, pair_steps, indented_steps}
use Rattle.yaml_recognizers.proofs.block_nodes.block_node_steps.Goals as goal

pub returns-clause-node : goal.returns-clause-node
returns-clause-node c = node_steps

pub returns-clause-items : goal.returns-clause-items
returns-clause-items c = items_steps

pub returns-clause-pairs : goal.returns-clause-pairs
returns-clause-pairs c = pairs_steps

pub returns-clause-pair : goal.returns-clause-pair
returns-clause-pair c = pair_steps

pub returns-clause-indented : goal.returns-clause-indented
returns-clause-indented c = indented_steps
