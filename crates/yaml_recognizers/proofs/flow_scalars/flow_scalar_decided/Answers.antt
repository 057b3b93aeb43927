use Rattle.yaml_recognizers.proofs.Scalars.WholeScalars.{is_scalar, no_scalar}
use Rattle.yaml_recognizers.proofs.flow_scalars.flow_scalar_decided.Goals as goal

pub returns-clause-found : goal.returns-clause-found
returns-clause-found c = is_scalar

pub returns-clause-none : goal.returns-clause-none
returns-clause-none c = no_scalar
