use Rattle.yaml_commented.proofs.Read.{commented_presented}
use Rattle.yaml_commented.proofs.commented_presents.Goals as goal

pub returns : goal.returns
returns c = commented_presented
