use Rattle.std.proofs.Common.{arith, length, suc}
use Rattle.yaml_recognizers.proofs.Separation.CommentsSound.{all_sound, comments_end}
use Rattle.yaml_recognizers.proofs.comments.comments_fit.Goals as goal

pub returns-clause-spells : goal.returns-clause-spells
returns-clause-spells c = λ bol text. (all_sound bol text).0

pub returns-clause-fit : goal.returns-clause-fit
returns-clause-fit c = λ bol text b e. (all_sound bol text).1 b e

pub returns-clause-whole : goal.returns-clause-whole
returns-clause-whole c = λ text. comments_end (suc (length text)) text (omega arith)
