use Rattle.yaml_comments.proofs.Once.{comments_on_lines}
use Rattle.yaml_comments.proofs.comments_on_lines.Goals as goal

pub returns : goal.returns
returns c = comments_on_lines
