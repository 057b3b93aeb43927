use Rattle.yaml_recognizers.specs.FlowScalars.{read_scalar}
use Rattle.yaml_recognizers.proofs.{Block.BlockKeysWhole.no_block_key, Scalars.ScalarsInNodes.reads_scalars}
use Rattle.yaml_recognizers.proofs.flow_nodes.block_key_missing.Goals as goal

pub returns : goal.returns
returns c = no_block_key read_scalar reads_scalars
