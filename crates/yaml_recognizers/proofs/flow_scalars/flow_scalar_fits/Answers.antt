use Rattle.yaml_recognizers.proofs.Scalars.FlowScalars.{sound}
use Rattle.yaml_recognizers.proofs.flow_scalars.flow_scalar_fits.Goals as goal

pub returns : goal.returns
returns c = sound
