use Rattle.yaml_grammar.proofs.OneTree.{one_tree}
use Rattle.yaml_grammar.proofs.one_tree.Goals as goal

pub returns : goal.returns
returns c = one_tree
