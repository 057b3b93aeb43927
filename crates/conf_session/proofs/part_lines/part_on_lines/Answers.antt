use Rattle.std.proofs.Common.{codes, sym, subst}
use Rattle.conf_session.{proofs.Prelude.{IfSome_then, IfOk-weaker, lines_of}, specs.CommandLines.SpellsPart}
use Rattle.conf_session.proofs.part_lines.part_on_lines.Goals as goal

pub returns-in-Some : goal.returns-in-Some
returns-in-Some c =
    let own = lines_of c.args.lines (codes "text: ") in
    IfOk-weaker c.made_part.result _ _
    (λ made is. IfSome_then made is (λ part same. subst (SpellsPart own) (sym same) c.in-Some.ensures)) c.made_part.ensures
