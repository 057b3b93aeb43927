use Rattle.yaml_recognizers.{specs.{FlowScalars.read_scalar, BlockScalars.read_block}, proofs.Block.BlockNodesWhole.node_once}
use Rattle.yaml_recognizers.proofs.{Scalars.ScalarsInNodes.reads_scalars, BlockScalars.BlockScalarFacts.blocks_read}
use Rattle.yaml_recognizers.proofs.block_nodes.block_node_once.Goals as goal

pub returns : goal.returns
returns c = node_once read_scalar reads_scalars read_block blocks_read
