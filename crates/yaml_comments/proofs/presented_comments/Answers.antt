use Rattle.yaml_comments.proofs.StreamParted.{presented}
use Rattle.yaml_comments.proofs.presented_comments.Goals as goal

pub returns : goal.returns
returns c = presented
