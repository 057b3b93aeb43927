use Rattle.yaml_recognizers.proofs.Separation.CommentsDepth.{comments_step, gap_step, inline_step}
use Rattle.yaml_recognizers.proofs.comments.comments_steps.Goals as goal

pub returns-clause-comments : goal.returns-clause-comments
returns-clause-comments c = comments_step

pub returns-clause-lines : goal.returns-clause-lines
returns-clause-lines c = gap_step

pub returns-clause-inline : goal.returns-clause-inline
returns-clause-inline c = inline_step
