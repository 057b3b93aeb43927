use Rattle.conf_system.proofs.Crashes.{crash-image}
use Rattle.conf_system.proofs.laws.crashes_are_images.Goals as goal

pub returns : goal.returns
returns c = crash-image
