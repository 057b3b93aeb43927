use Rattle.conf_system.proofs.Images.{calls-no_other}
use Rattle.conf_system.proofs.laws.calls_leave_no_other_image.Goals as goal

pub returns : goal.returns
returns c = calls-no_other
