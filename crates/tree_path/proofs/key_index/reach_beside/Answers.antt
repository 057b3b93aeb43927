use Rattle.std.proofs.Common.{inr, refl, ap, ◌∙◌}
use Rattle.tree_path.proofs.Prelude.{members_of, tree_of, tree_of-Map}
use Rattle.tree_path.proofs.key_index.reach_beside.Goals as goal

pub returns-in-Map : goal.returns-in-Map
returns-in-Map c = inr (refl, (members_of c.in-Map.field-0.items, ap tree_of c.in-Map.is ∙ tree_of-Map c.in-Map.field-0))
