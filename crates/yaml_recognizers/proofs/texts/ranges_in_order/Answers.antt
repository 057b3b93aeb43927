use Rattle.yaml_recognizers.proofs.Meanings.Ranges.{stream_ranges}
use Rattle.yaml_recognizers.proofs.texts.ranges_in_order.Goals as goal

pub returns : goal.returns
returns c = stream_ranges
