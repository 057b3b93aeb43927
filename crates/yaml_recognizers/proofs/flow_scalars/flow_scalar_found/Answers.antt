use Rattle.yaml_recognizers.proofs.Scalars.FlowScalars.{scalar_read}
use Rattle.yaml_recognizers.proofs.flow_scalars.flow_scalar_found.Goals as goal

pub returns : goal.returns
returns c = scalar_read
