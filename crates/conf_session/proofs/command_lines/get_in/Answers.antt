use Rattle.std.proofs.Common.{◌≡◌, codes, subst, sym, ap, ◌∙◌}
use Rattle.conf_session.{proofs.{Prelude.{chars, text_bytes}, CommandLineLemmas.get_lines, RowLemmas.spelled_chars}, specs.Said.get_at}
use Rattle.conf_session.specs.CommandLines.{IsCommandLines, IsField}
use Rattle.conf_session.proofs.command_lines.get_in.Goals as goal

pub returns : goal.returns
returns c =
    let lines = c.args.lines.now in
    let name = c.in-Some.name.now in
    let path = c.in-Some-cut_field.path.now in
    let one = c.in-Some.ensures in
    let two = subst (λ end. IsField c.in-Some.after_name.now (codes "path: ") path end)
    (c.is_end.ensures c.if-not-is_end.false) c.in-Some-cut_field.ensures in
    let name_is : chars (text_bytes c.in_ok-name.name) ≡ name = ap chars c.in_ok-name.ensures
    ∙ spelled_chars one.spelling name one.stands in
    let path_is : chars (text_bytes c.in_ok-path.path) ≡ path = ap chars c.in_ok-path.ensures
    ∙ spelled_chars two.spelling path two.stands in
    subst (IsCommandLines lines) (λ i. get_at (sym name_is i) (sym path_is i)) (get_lines name path lines c.in-Some.after_name.now one two)
