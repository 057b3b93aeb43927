use Rattle.conf_session.proofs.CommandLineLemmas.{test_lines}
use Rattle.conf_session.proofs.condition_lines.cut_test.Goals as goal

pub returns : goal.returns
returns c =
    let name = c.in_ok-name in
    let path = c.in_ok-path in
    let value = c.in_ok-value in
    test_lines name.name.now path.path.now value.value.now c.args.lines.now name.after_name.now path.after_path.now
    value.rest.now name.ensures path.ensures value.ensures
