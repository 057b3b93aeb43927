use Rattle.file_calls.proofs.Left.{calls-no_other}
use Rattle.file_calls.proofs.laws.calls_leave_no_other_image.Goals as goal

pub returns : goal.returns
returns c = calls-no_other
