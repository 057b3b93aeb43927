use Rattle.yaml_recognizers.proofs.Scalars.ScalarKeys.{read_as_key}
use Rattle.yaml_recognizers.proofs.flow_scalars.flow_scalar_as_key.Goals as goal

pub returns : goal.returns
returns c = read_as_key
