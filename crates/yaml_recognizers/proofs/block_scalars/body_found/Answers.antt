use Rattle.yaml_recognizers.proofs.BlockScalars.BlockScalarFacts.{body_is}
use Rattle.yaml_recognizers.proofs.block_scalars.body_found.Goals as goal

pub returns : goal.returns
returns c = body_is
