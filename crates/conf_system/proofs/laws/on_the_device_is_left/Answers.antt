use Rattle.conf_system.proofs.Stops.{device-left}
use Rattle.conf_system.proofs.laws.on_the_device_is_left.Goals as goal

pub returns : goal.returns
returns c = device-left
