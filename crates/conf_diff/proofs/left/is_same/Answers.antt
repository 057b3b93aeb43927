use Rattle.std.proofs.Common.{◌∙◌}
use Rattle.conf_diff.proofs.Prelude.{bytes_eq-chars}
use Rattle.conf_diff.proofs.left.is_same.Goals as goal

pub returns : goal.returns
returns c = c.eq.ensures ∙ bytes_eq-chars c.args.name.now c.args.other.now c.utf8.name c.utf8.other
