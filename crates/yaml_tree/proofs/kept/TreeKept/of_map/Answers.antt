use Rattle.std.proofs.Common.{ap, ◌∙◌}
use Rattle.yaml_tree.proofs.{Prelude.{mapping, tree_of-Map}, PartLemmas.members_of-by}
use Rattle.yaml_tree.proofs.kept.TreeKept.of_map.Goals as goal

pub returns : goal.returns
returns c = tree_of-Map c.args.pairs ∙ ap mapping (members_of-by c.args.pairs.items)
