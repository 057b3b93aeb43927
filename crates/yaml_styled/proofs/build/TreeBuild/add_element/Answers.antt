use Rattle.yaml_styled.proofs.BuildLemmas.{elements_more}
use Rattle.yaml_styled.proofs.build.TreeBuild.add_element.Goals as goal

pub returns-clause-added : goal.returns-clause-added
returns-clause-added c before ts t are is =
    elements_more before c.args.pending.now.elements.items c.push.new.self.items ts c.args.element t are c.in_ok-push.ensures.items is
