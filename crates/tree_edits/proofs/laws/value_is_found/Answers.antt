use Rattle.tree_edits.proofs.SetLaws.{set-found}
use Rattle.tree_edits.proofs.laws.value_is_found.Goals as goal

pub returns : goal.returns
returns c = set-found
