use Rattle.std.proofs.Common.{ap, ◌∙◌}
use Rattle.yaml_tree.proofs.{Prelude.elements_of, PartLemmas.elements_of-and}
use Rattle.yaml_tree.proofs.kept.TreeKept.put_element.Goals as goal

pub returns : goal.returns
returns c = ap elements_of c.in_ok-push.ensures.items ∙ elements_of-and c.args.items.now.items c.args.value
