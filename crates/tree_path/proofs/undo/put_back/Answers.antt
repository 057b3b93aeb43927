use Rattle.std.proofs.Common.{subst}
use Rattle.tree_path.{proofs.Prelude.tree_of, specs.Undoing.PutsBack}
use Rattle.tree_path.proofs.undo.put_back.Goals as goal

pub returns-in-Nothing : goal.returns-in-Nothing
returns-in-Nothing c = λ before is.
    c.take_last.ensures before (subst (λ d. PutsBack d (tree_of c.args.tree.now) before) c.in-Nothing.is is)
