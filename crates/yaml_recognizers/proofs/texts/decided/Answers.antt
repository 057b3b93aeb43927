use Rattle.yaml_recognizers.{specs.{FlowScalars.read_scalar, BlockScalars.read_block}, proofs.Meanings.Meaning.no_presentation}
use Rattle.yaml_recognizers.proofs.{Scalars.ScalarsInNodes.reads_scalars, BlockScalars.BlockScalarFacts.blocks_read}
use Rattle.yaml_recognizers.proofs.texts.decided.Goals as goal

pub returns : goal.returns
returns c = no_presentation read_scalar reads_scalars read_block blocks_read
