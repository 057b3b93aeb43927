use Rattle.yaml_recognizers.specs.{FlowScalars.read_scalar, BlockScalars.read_block}
use Rattle.yaml_recognizers.proofs.{Documents.StreamsWhole.whole_stream_is, Documents.NestedStreams.can_read}
use Rattle.yaml_recognizers.proofs.{Scalars.ScalarsInNodes.reads_scalars, BlockScalars.BlockScalarFacts.blocks_read}
use Rattle.yaml_recognizers.proofs.streams.stream_can_be_read.Goals as goal

pub returns : goal.returns
returns c = λ text s e. let p = whole_stream_is read_scalar reads_scalars read_block blocks_read text s e in can_read text s p.0 p.1
