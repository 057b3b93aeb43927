use Rattle.tree_path.proofs.EditLaws.{set-at}
use Rattle.tree_path.proofs.laws.set_is_found.Goals as goal

pub returns : goal.returns
returns c = set-at
