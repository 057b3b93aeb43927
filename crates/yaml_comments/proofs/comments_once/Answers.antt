use Rattle.yaml_comments.proofs.Once.{comments_once}
use Rattle.yaml_comments.proofs.comments_once.Goals as goal

pub returns : goal.returns
returns c = comments_once
