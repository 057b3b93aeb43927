use Rattle.std.proofs.Common.{subst, sym}
use Rattle.conf_session.proofs.{Prelude.{chars, chars-nil, absent_at}, CommandLineLemmas.{absent_lines, missing_line}}
use Rattle.conf_session.specs.CommandLines.{IsConditionLines}
use Rattle.conf_session.proofs.condition_lines.cut_absent.Goals as goal

pub returns-in-Some : goal.returns-in-Some
returns-in-Some c =
    let name = c.in_ok-name in
    absent_lines name.name.now c.in-Some.path.now c.args.lines.now name.after_name.now c.in-Some.rest.now
    name.ensures c.in-Some.ensures

pub returns-in-None : goal.returns-in-None
returns-in-None c =
    let name = c.in_ok-name in
    let lines = c.args.lines.now in
    let after = name.after_name.now in
    subst (λ path. IsConditionLines lines (absent_at (chars name.name.now) path) after) (sym chars-nil)
    (missing_line name.name.now lines after name.ensures)
