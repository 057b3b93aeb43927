use Rattle.yaml_recognizers.{specs.{FlowScalars.read_scalar, BlockScalars.read_block}, proofs.Meanings.Meaning.reading_found}
use Rattle.yaml_recognizers.proofs.{Scalars.ScalarsInNodes.reads_scalars, BlockScalars.BlockScalarFacts.blocks_read}
use Rattle.yaml_recognizers.proofs.texts.text_reading_found.Goals as goal

pub returns : goal.returns
returns c = reading_found read_scalar reads_scalars read_block blocks_read
