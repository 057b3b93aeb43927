use Rattle.yaml_recognizers.proofs.Separation.GapsComplete.{gap_read}
use Rattle.yaml_recognizers.proofs.comments.gap_found.Goals as goal

pub returns : goal.returns
returns c = gap_read
