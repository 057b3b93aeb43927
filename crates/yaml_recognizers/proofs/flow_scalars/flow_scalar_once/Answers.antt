use Rattle.yaml_recognizers.proofs.Scalars.WholeScalars.{whole_once}
use Rattle.yaml_recognizers.proofs.flow_scalars.flow_scalar_once.Goals as goal

pub returns : goal.returns
returns c = whole_once
