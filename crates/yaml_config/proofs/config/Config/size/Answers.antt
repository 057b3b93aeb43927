use Rattle.yaml_config.proofs.{Prelude.tree_of, SizeLemmas.{element-fits, child-fits}}
use Rattle.yaml_config.proofs.config.Config.size.Goals as goal

pub size_from-requires-clause-small : goal.size_from-requires-clause-small
size_from-requires-clause-small c =
    element-fits (tree_of c.self.inside.tree) c.element_from.result c.self.invariant.0.long c.element_from.ensures

pub returns-in-Some-clause-small : goal.returns-in-Some-clause-small
returns-in-Some-clause-small c =
    child-fits c.args.slot (tree_of c.self.inside.tree) c.size_from.result c.self.invariant.0.long c.size_from.ensures
