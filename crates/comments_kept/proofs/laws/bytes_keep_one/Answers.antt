use Rattle.comments_kept.proofs.One.{kept_one}
use Rattle.comments_kept.proofs.laws.bytes_keep_one.Goals as goal

pub returns : goal.returns
returns c = kept_one
