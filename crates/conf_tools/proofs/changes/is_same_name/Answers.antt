use Rattle.std.proofs.Common.{◌∙◌}
use Rattle.tree_path.proofs.Places.{bytes_eq-chars}
use Rattle.conf_tools.proofs.changes.is_same_name.Goals as goal

pub returns : goal.returns
returns c = c.eq.ensures ∙ bytes_eq-chars c.args.name.now c.args.other.now c.utf8.name c.utf8.other
