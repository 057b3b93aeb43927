use Rattle.std.proofs.Common.{rules}
use Rattle.conf_session.proofs.FlowLineLemmas.{line_spelled}
use Rattle.conf_session.proofs.field_lines.other_value.Goals as goal

pub returns-in-Some : goal.returns-in-Some
returns-in-Some c = line_spelled c.args.line.now c.in-Some.value.now c.in-Some.rest.now (search rules) (search rules)
