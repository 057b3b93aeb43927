use Rattle.std.proofs.Common.{sym}
use Rattle.conf_about.proofs.{Prelude.{tree_of, tree_of-IsTextTree}, FaultLemmas.None-about}
use Rattle.conf_about.proofs.about.About.add.Goals as goal

pub invariant_of-self-in-None : goal.invariant_of-self-in-None
invariant_of-self-in-None c =
    let pushed = c.push_pair.new.tree in None-about (tree_of pushed) (tree_of-IsTextTree pushed) (sym c.in-None.ensures)
