-- The elements of a tree that is kept are kept.
use Rattle.std.proofs.Common.{ap, subst, ◌∙◌}
use Rattle.conf_session.proofs.Prelude.{IsKept, tree_of, elements_of, tree_of-Seq, items_kept}
use Rattle.conf_session.proofs.edits.parts_in.Goals as goal

pub all_listed-requires : goal.all_listed-requires
all_listed-requires c = items_kept (elements_of c.in-Seq.elements.items)
    (subst IsKept (ap tree_of c.in-Seq.is ∙ tree_of-Seq c.in-Seq.elements) c.requires)
