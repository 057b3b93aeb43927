use Rattle.conf_disk.proofs.Images.{after_part-cases}
use Rattle.conf_disk.proofs.laws.calls_leave_no_other_image.Goals as goal

pub returns : goal.returns
returns c = after_part-cases
