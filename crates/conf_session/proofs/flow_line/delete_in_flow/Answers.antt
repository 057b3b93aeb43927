use Rattle.std.proofs.Common.{rules, Some, arith}
use Rattle.conf_session.proofs.{Prelude.strip_prefix_char, FlowLineLemmas.delete_on_flow_line}
use Rattle.conf_session.proofs.flow_line.delete_in_flow.Goals as goal

pub returns : goal.returns
returns c =
    let name = c.in_ok-name in
    let path_on = c.in_ok-path_on in
    delete_on_flow_line name.name c.in_ok-path.path c.args.members.now name.after_name.now path_on.path_on.now c.in_ok-path.end.now
    c.behind_space.ensures.0 name.ensures
    (strip_prefix_char 44 name.after_name.now (Some path_on.path_on) path_on.ensures.cases (omega arith))
    c.in_ok-path.ensures (search rules)
