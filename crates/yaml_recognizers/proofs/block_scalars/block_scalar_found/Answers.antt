use Rattle.yaml_recognizers.proofs.BlockScalars.BlockScalarFacts.{blocks_read}
use Rattle.yaml_recognizers.proofs.block_scalars.block_scalar_found.Goals as goal

pub returns : goal.returns
returns c = blocks_read.complete
