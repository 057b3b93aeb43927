use Rattle.std.proofs.Common.{Some, IfSome, subst, sym, lit<}
use Rattle.conf_record.{proofs.Prelude.{strip_prefix_char, chars}, specs.Written.IsLineOf}
use Rattle.conf_record.proofs.lines.line_text.Goals as goal

pub returns-in-Some : goal.returns-in-Some
returns-in-Some c =
    let quoted = strip_prefix_char 34 c.args.line.now (Some c.in-Some.quoted) c.in-Some.ensures.cases (lit< tt) in
    subst (λ line. IfSome c.quoted_text.result (λ text. IsLineOf line (chars text.now))) (sym quoted) c.quoted_text.ensures
