use Rattle.conf_system.proofs.Images.{reading-left}
use Rattle.conf_system.proofs.laws.reading_is_left.Goals as goal

pub returns : goal.returns
returns c = reading-left
