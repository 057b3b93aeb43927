use Rattle.yaml_recognizers.proofs.Separation.CommentsComplete.{comments_all}
use Rattle.yaml_recognizers.proofs.comments.comments_found.Goals as goal

pub returns : goal.returns
returns c = λ bol comments after h. comments_all bol comments after h
