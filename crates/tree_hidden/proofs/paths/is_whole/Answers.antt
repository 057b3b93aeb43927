use Rattle.std.proofs.Common.{◌∙◌}
use Rattle.tree_hidden.proofs.PathLemmas.{whole-empty}
use Rattle.tree_hidden.proofs.paths.is_whole.Goals as goal

pub returns : goal.returns
returns c = c.is_empty.ensures ∙ whole-empty c.args.path.now
