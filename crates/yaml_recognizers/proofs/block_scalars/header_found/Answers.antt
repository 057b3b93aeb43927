use Rattle.yaml_recognizers.proofs.BlockScalars.BlockScalarFacts.{header_is}
use Rattle.yaml_recognizers.proofs.block_scalars.header_found.Goals as goal

pub returns : goal.returns
returns c = header_is
