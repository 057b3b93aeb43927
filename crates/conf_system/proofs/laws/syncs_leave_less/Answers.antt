use Rattle.conf_system.proofs.Images.{syncs-less}
use Rattle.conf_system.proofs.laws.syncs_leave_less.Goals as goal

pub returns : goal.returns
returns c = syncs-less
