use Rattle.yaml_styled.proofs.BuildLemmas.{members_more}
use Rattle.yaml_styled.proofs.build.TreeBuild.add_member.Goals as goal

pub returns-clause-added : goal.returns-clause-added
returns-clause-added c before ms t are is =
    members_more before c.args.pending.now.members.items c.push.new.self.items ms (c.in_ok-text.text, c.args.value) c.args.key.now t
    are c.in_ok-push.ensures.items c.in_ok-text.ensures is
