use Rattle.yaml_recognizers.{specs.{FlowScalars.read_scalar, BlockScalars.read_block}, proofs.Meanings.Meaning.text_reads}
use Rattle.yaml_recognizers.proofs.{Scalars.ScalarsInNodes.reads_scalars, BlockScalars.BlockScalarFacts.blocks_read}
use Rattle.yaml_recognizers.proofs.texts.text_reads.Goals as goal

pub returns : goal.returns
returns c = text_reads read_scalar reads_scalars read_block blocks_read
