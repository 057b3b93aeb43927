use Rattle.yaml_recognizers.proofs.BlockScalars.BlockScalarFacts.{no_body}
use Rattle.yaml_recognizers.proofs.block_scalars.body_missing.Goals as goal

pub returns : goal.returns
returns c = no_body
