use Rattle.yaml_recognizers.{specs.{FlowScalars.read_scalar, BlockScalars.read_block}, proofs.Documents.StreamsWhole.stream_once}
use Rattle.yaml_recognizers.proofs.{Scalars.ScalarsInNodes.reads_scalars, BlockScalars.BlockScalarFacts.blocks_read}
use Rattle.yaml_recognizers.proofs.streams.stream_once.Goals as goal

pub returns : goal.returns
returns c = stream_once read_scalar reads_scalars read_block blocks_read
