use Rattle.std.proofs.Common.{rules, Some, arith}
use Rattle.conf_session.proofs.{Prelude.strip_prefix_char, FlowLineLemmas.set_on_flow_line}
use Rattle.conf_session.proofs.flow_line.set_in_flow.Goals as goal

pub returns : goal.returns
returns c =
    let name = c.in_ok-name in
    let path = c.in_ok-path in
    let value = c.in_ok-value in
    let path_on = c.in_ok-path_on in
    let value_on = c.in_ok-value_on in
    set_on_flow_line name.name path.path value.value c.args.members.now name.after_name.now path_on.path_on.now path.after_path.now
    value_on.value_on.now value.end.now c.behind_space.ensures.0 name.ensures
    (strip_prefix_char 44 name.after_name.now (Some path_on.path_on) path_on.ensures.cases (omega arith)) path.ensures
    (strip_prefix_char 44 path.after_path.now (Some value_on.value_on) value_on.ensures.cases (omega arith)) value.ensures (search rules)
