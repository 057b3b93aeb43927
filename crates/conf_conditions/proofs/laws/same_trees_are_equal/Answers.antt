use Rattle.std.proofs.Common.{ap, sym, ◌∙◌}
use Rattle.conf_conditions.{specs.SameTrees.same_tree, proofs.SameLemmas.{same_tree-true, same_tree-self}}
use Rattle.conf_conditions.proofs.laws.same_trees_are_equal.Goals as goal

pub returns : goal.returns
returns c = λ one other. (same_tree-true one other, λ is. ap (same_tree one) (sym is) ∙ same_tree-self one)
