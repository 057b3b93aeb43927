use Rattle.conf_disk.proofs.Stops.{reading-image}
use Rattle.conf_disk.proofs.laws.reading_is_an_image.Goals as goal

pub returns : goal.returns
returns c = reading-image
