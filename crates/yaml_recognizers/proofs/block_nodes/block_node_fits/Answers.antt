use Rattle.yaml_recognizers.{specs.{FlowScalars.read_scalar, BlockScalars.read_block}, proofs.Block.BlockNodesWhole.whole_node_is}
use Rattle.yaml_recognizers.proofs.{Scalars.ScalarsInNodes.reads_scalars, BlockScalars.BlockScalarFacts.blocks_read}
use Rattle.yaml_recognizers.proofs.block_nodes.block_node_fits.Goals as goal

pub returns : goal.returns
returns c = whole_node_is read_scalar reads_scalars read_block blocks_read
