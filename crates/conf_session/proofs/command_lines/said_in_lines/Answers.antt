use Rattle.std.proofs.Common.{◌≡◌, ◌++◌, codes, true, false, rules, sym, ◌∙◌, arith}
use Rattle.conf_session.{proofs.{Prelude.{IfSome_then, IfOk-weaker}, RowLemmas.lines_say}, specs.Said.said_of}
use Rattle.conf_session.proofs.command_lines.said_in_lines.Goals as goal

pub returns-in-Some : goal.returns-in-Some
returns-in-Some c =
    let piece = c.args.piece.now in
    let lines = c.in-Some.lines.now in
    let marked : c.in-Ok.text.now ≡ codes "---\n" ++ lines = search rules in
    IfOk-weaker c.command_in.result _ _
    (λ found is. IfSome_then found is (λ said command.
    lines_say c.unambiguous.ensures true piece lines (said_of said)
    (sym c.in-Ok.ensures.cases.0 ∙ marked) c.in-Ok.ensures.cases.1 (omega arith) command))
    c.command_in.ensures

pub returns-in-None : goal.returns-in-None
returns-in-None c =
    let piece = c.args.piece.now in
    IfOk-weaker c.command_in-in-None.result _ _
    (λ found is. IfSome_then found is (λ said command.
    lines_say c.unambiguous.ensures false piece c.in-Ok.text.now (said_of said)
    (sym c.in-Ok.ensures.cases.0) c.in-Ok.ensures.cases.1 (omega arith) command))
    c.command_in-in-None.ensures
