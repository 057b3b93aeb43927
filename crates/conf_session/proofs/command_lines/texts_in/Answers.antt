use Rattle.std.proofs.Common.{◌≡◌, ◌++◌, codes, true, false, rules, sym, ◌∙◌, arith}
use Rattle.conf_session.{proofs.{Prelude.IfSome_then, RowLemmas.lines_say, CommandLineLemmas.part_lines}, specs.PartLines.part_cut}
use Rattle.conf_session.proofs.command_lines.texts_in.Goals as goal

pub returns-in-Some : goal.returns-in-Some
returns-in-Some c =
    let piece = c.args.piece.now in
    let lines = c.in-Some.lines.now in
    let marked : c.in-Ok.text.now ≡ codes "---\n" ++ lines = search rules in
    IfSome_then c.part_texts.result c.part_texts.ensures (λ cut part said ends.
    lines_say c.unambiguous.ensures true piece lines said (sym c.in-Ok.ensures.cases.0 ∙ marked) c.in-Ok.ensures.cases.1
    (omega arith) (part_lines lines cut.1.now (part_cut cut.0) said part ends).command)

pub returns-in-None : goal.returns-in-None
returns-in-None c =
    let piece = c.args.piece.now in
    let lines = c.in-Ok.text.now in
    IfSome_then c.part_texts-in-None.result c.part_texts-in-None.ensures (λ cut part said ends.
    lines_say c.unambiguous.ensures false piece lines said (sym c.in-Ok.ensures.cases.0) c.in-Ok.ensures.cases.1
    (omega arith) (part_lines lines cut.1.now (part_cut cut.0) said part ends).command)
