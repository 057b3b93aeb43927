use Rattle.conf_system.proofs.Stops.{image-stays}
use Rattle.conf_system.proofs.laws.images_are_stable.Goals as goal

pub returns-clause-stays : goal.returns-clause-stays
returns-clause-stays c = image-stays
