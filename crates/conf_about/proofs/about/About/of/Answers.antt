use Rattle.std.proofs.Common.{refl, sym}
use Rattle.conf_about.proofs.{Prelude.{tree_of, tree_of-IsTextTree}, FaultLemmas.None-about}
use Rattle.conf_about.proofs.about.About.of.Goals as goal

pub invariant_of-result : goal.invariant_of-result
invariant_of-result c = None-about (tree_of c.args.tree) (tree_of-IsTextTree c.args.tree) (sym c.in-None.ensures)

pub returns-in-None-clause-ok : goal.returns-in-None-clause-ok
returns-in-None-clause-ok c = (refl, None-about (tree_of c.args.tree) (tree_of-IsTextTree c.args.tree) (sym c.in-None.ensures))
