use Rattle.conf_disk.proofs.Stops.{image-reads, image-stays}
use Rattle.conf_disk.proofs.laws.images_are_stable.Goals as goal

pub returns-clause-reads : goal.returns-clause-reads
returns-clause-reads c = image-reads

pub returns-clause-stays : goal.returns-clause-stays
returns-clause-stays c = image-stays
