use Rattle.yaml_recognizers.specs.FlowScalars.{read_scalar}
use Rattle.yaml_recognizers.proofs.{Block.BlockKeysWhole.block_key_read, Scalars.ScalarsInNodes.reads_scalars}
use Rattle.yaml_recognizers.proofs.flow_nodes.block_key_found.Goals as goal

pub returns : goal.returns
returns c = block_key_read read_scalar reads_scalars
