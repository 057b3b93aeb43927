use Rattle.yaml_comments.proofs.Told.{commented_told}
use Rattle.yaml_comments.proofs.commented_comments.Goals as goal

pub returns : goal.returns
returns c = commented_told c.unambiguous.ensures
