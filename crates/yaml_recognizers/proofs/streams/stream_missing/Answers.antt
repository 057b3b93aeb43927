use Rattle.yaml_recognizers.{specs.{FlowScalars.read_scalar, BlockScalars.read_block}, proofs.Documents.StreamsWhole.no_stream}
use Rattle.yaml_recognizers.proofs.{Scalars.ScalarsInNodes.reads_scalars, BlockScalars.BlockScalarFacts.blocks_read}
use Rattle.yaml_recognizers.proofs.streams.stream_missing.Goals as goal

pub returns : goal.returns
returns c = no_stream read_scalar reads_scalars read_block blocks_read
