use Rattle.yaml_tree.proofs.Prelude.{tree_of-Seq}
use Rattle.yaml_tree.proofs.kept.TreeKept.of_seq.Goals as goal

pub returns : goal.returns
returns c = tree_of-Seq c.args.items
