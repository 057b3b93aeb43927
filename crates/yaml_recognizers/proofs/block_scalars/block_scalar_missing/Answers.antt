use Rattle.yaml_recognizers.proofs.BlockScalars.BlockScalarFacts.{no_block}
use Rattle.yaml_recognizers.proofs.block_scalars.block_scalar_missing.Goals as goal

pub returns : goal.returns
returns c = no_block
