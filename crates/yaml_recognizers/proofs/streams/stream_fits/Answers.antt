use Rattle.yaml_recognizers.{specs.{FlowScalars.read_scalar, BlockScalars.read_block}, proofs.Documents.StreamsWhole.whole_stream_is}
use Rattle.yaml_recognizers.proofs.{Scalars.ScalarsInNodes.reads_scalars, BlockScalars.BlockScalarFacts.blocks_read}
use Rattle.yaml_recognizers.proofs.streams.stream_fits.Goals as goal

pub returns : goal.returns
returns c = whole_stream_is read_scalar reads_scalars read_block blocks_read
