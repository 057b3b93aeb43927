use Rattle.yaml_recognizers.proofs.BlockScalars.BlockScalarFacts.{block_once}
use Rattle.yaml_recognizers.proofs.block_scalars.block_scalar_once.Goals as goal

pub returns : goal.returns
returns c = block_once
