use Rattle.yaml_commented.proofs.Woven.{rows_woven}
use Rattle.yaml_commented.proofs.rows_woven.Goals as goal

pub returns : goal.returns
returns c = rows_woven
