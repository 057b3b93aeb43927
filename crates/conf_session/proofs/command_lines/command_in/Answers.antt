use Rattle.std.proofs.Common.{◌≡◌, ◌++◌, codes, rules, subst}
use Rattle.conf_session.{proofs.Prelude.{IfSome_then, IfOk-weaker}, specs.{Said.said_of, CommandLines.IsCommandLines}}
use Rattle.conf_session.proofs.command_lines.command_in.Goals as goal

pub returns-in-Some : goal.returns-in-Some
returns-in-Some c =
    let lines : codes "if:\n" ++ c.in-Some.conditions.now ≡ c.args.lines.now = search rules in
    IfOk-weaker c.conditional_in.result _ _
    (λ found is. IfSome_then found is (λ said command. subst (λ cs. IsCommandLines cs (said_of said)) lines command))
    c.conditional_in.ensures

pub returns-in-None : goal.returns-in-None
returns-in-None c = IfOk-weaker c.change_in.result _ _
    (λ found is. IfSome_then found is (λ said change. change.command)) c.change_in.ensures
