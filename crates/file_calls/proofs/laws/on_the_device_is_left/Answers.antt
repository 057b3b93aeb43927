use Rattle.file_calls.proofs.Left.{device-left}
use Rattle.file_calls.proofs.laws.on_the_device_is_left.Goals as goal

pub returns : goal.returns
returns c = device-left
