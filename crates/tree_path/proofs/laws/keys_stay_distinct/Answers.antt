use Rattle.tree_path.proofs.EditLaws.{set-distinct, delete-distinct}
use Rattle.tree_path.proofs.laws.keys_stay_distinct.Goals as goal

pub returns-clause-set : goal.returns-clause-set
returns-clause-set c = λ t u v path. set-distinct t v u path

pub returns-clause-delete : goal.returns-clause-delete
returns-clause-delete c = delete-distinct
