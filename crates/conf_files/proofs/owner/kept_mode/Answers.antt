-- A mode under a mask is within the mode.
use Rattle.conf_files.proofs.Masks.{masked_is_within}
use Rattle.conf_files.proofs.owner.kept_mode.Goals as goal

pub returns-clause-within : goal.returns-clause-within
returns-clause-within c = masked_is_within c.args.mode _
