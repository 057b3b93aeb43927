use Rattle.std.proofs.Common.{rules}
use Rattle.conf_session.proofs.{Prelude.IfSome_then, FlowLineLemmas.{begins_quoted, begins_single}}
use Rattle.conf_session.proofs.field_lines.cut_quoted.Goals as goal

pub returns-in-Some : goal.returns-in-Some
returns-in-Some c =
    IfSome_then c.cut_before.result c.cut_before.ensures (λ cut before.
    begins_quoted c.args.text.now c.in-Some.quoted.now cut.0.now cut.1.now (search rules) before)

pub returns-in_ok-strip_prefix-in-None : goal.returns-in_ok-strip_prefix-in-None
returns-in_ok-strip_prefix-in-None c =
    IfSome_then c.cut_before-in-None.result c.cut_before-in-None.ensures (λ cut before.
    begins_single c.args.text.now c.in_ok-strip_prefix-in-None.field-0.now cut.0.now cut.1.now (search rules) before)
