use Rattle.yaml_recognizers.proofs.Scalars.ScalarsInNodes.{stops_end}
use Rattle.yaml_recognizers.proofs.flow_scalars.flow_scalar_ends.Goals as goal

pub returns : goal.returns
returns c = stops_end
