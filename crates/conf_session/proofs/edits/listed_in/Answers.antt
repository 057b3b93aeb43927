use Rattle.std.proofs.Common.{ap, subst, ◌∙◌}
use Rattle.conf_session.proofs.Prelude.{IsKept, tree_of, members_of, tree_of-Map, parts_kept}
use Rattle.conf_session.proofs.edits.listed_in.Goals as goal

pub listed_from-requires : goal.listed_from-requires
listed_from-requires c = parts_kept (members_of c.in-Map.pairs.items)
    (subst IsKept (ap tree_of c.in-Map.is ∙ tree_of-Map c.in-Map.pairs) c.requires)
