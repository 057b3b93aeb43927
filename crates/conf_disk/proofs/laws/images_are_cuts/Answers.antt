use Rattle.conf_disk.proofs.Stops.{images-cuts, prefix-torn}
use Rattle.conf_disk.proofs.laws.images_are_cuts.Goals as goal

pub returns-clause-images : goal.returns-clause-images
returns-clause-images c = images-cuts

pub returns-clause-prefixes : goal.returns-clause-prefixes
returns-clause-prefixes c = prefix-torn
