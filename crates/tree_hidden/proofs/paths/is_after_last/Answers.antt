use Rattle.std.proofs.Common.{◌∙◌}
use Rattle.tree_hidden.proofs.Prelude.{bytes_eq-dash}
use Rattle.tree_hidden.proofs.paths.is_after_last.Goals as goal

pub returns : goal.returns
returns c = c.eq.ensures ∙ bytes_eq-dash c.args.token.now c.utf8.token
