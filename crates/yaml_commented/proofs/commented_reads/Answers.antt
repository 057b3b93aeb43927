use Rattle.yaml_commented.proofs.Read.{commented_read}
use Rattle.yaml_commented.proofs.commented_reads.Goals as goal

pub returns : goal.returns
returns c = commented_read c.unambiguous.ensures
