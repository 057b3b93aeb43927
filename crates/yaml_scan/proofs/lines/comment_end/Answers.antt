use Rattle.std.proofs.Common.{arith, sym, ◌∙◌}
use Rattle.yaml_scan.proofs.{ByteSigns.sign_there, LineSteps.{comment_missing, comment_there}}
use Rattle.yaml_scan.proofs.lines.comment_end.Goals as goal

pub returns-then-not-stands_at : goal.returns-then-not-stands_at
returns-then-not-stands_at c = comment_missing c.args.text.now c.args.at c.requires (sym c.stands_at.ensures ∙ c.if-not-stands_at.true)

pub nb_end-requires : goal.nb_end-requires
nb_end-requires c = (sign_there c.args.text.now c.args.at 35 c.utf8.text c.requires (omega arith)
    (sym c.stands_at.ensures ∙ c.if-not-stands_at.false)).boundary

pub returns : goal.returns
returns c =
    comment_there c.args.text.now c.args.at c.nb_end.result
    (sign_there c.args.text.now c.args.at 35 c.utf8.text c.requires (omega arith)
    (sym c.stands_at.ensures ∙ c.if-not-stands_at.false)) c.nb_end.ensures
