use Rattle.conf_system.proofs.Torn.{failed-last}
use Rattle.conf_system.proofs.laws.failed_syncs_last.Goals as goal

pub returns : goal.returns
returns c = failed-last
