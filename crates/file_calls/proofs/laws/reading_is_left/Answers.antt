use Rattle.file_calls.proofs.Left.{reading-left}
use Rattle.file_calls.proofs.laws.reading_is_left.Goals as goal

pub returns : goal.returns
returns c = reading-left
