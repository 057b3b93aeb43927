use Rattle.std.proofs.Common.{rules, Some}
use Rattle.conf_session.proofs.Prelude.{split_parts}
use Rattle.conf_session.proofs.field_lines.cut_before.Goals as goal

pub returns : goal.returns
returns c =
    let cut = c.in_ok-value in
    let parts = split_parts c.args.quote c.args.quoted.now (Some (cut.value, cut.rest)) cut.ensures.cases c.requires in
    record { stands = search rules; none = parts.1; is = parts.0 }
