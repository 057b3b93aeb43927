use Rattle.std.proofs.Common.{sym}
use Rattle.conf_session.proofs.CommandLineLemmas.{count_line}
use Rattle.conf_session.proofs.condition_lines.cut_count.Goals as goal

pub returns : goal.returns
returns c =
    let digits = c.in_ok-digits in
    count_line digits.digits.now c.args.lines.now digits.rest.now c.in_ok-count.count (sym c.in_ok-count.ensures.read) digits.ensures
