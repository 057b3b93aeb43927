use Rattle.std.proofs.Common.{◌∙◌}
use Rattle.tree_edits.proofs.Prelude.{bytes_eq-chars}
use Rattle.tree_edits.proofs.moving.is_same.Goals as goal

pub returns : goal.returns
returns c = c.eq.ensures ∙ bytes_eq-chars c.args.from.now c.args.to.now c.utf8.from c.utf8.to
