use Rattle.yaml_recognizers.proofs.BlockScalars.BlockScalarFacts.{no_header}
use Rattle.yaml_recognizers.proofs.block_scalars.header_missing.Goals as goal

pub returns : goal.returns
returns c = no_header
