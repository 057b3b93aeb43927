use Rattle.std.proofs.Common.{◌+◌, ◌*◌, sym, ap, subst, ◌∙◌}
use Rattle.yaml_styled.{proofs.Prelude.style_text, specs.Styles.IsStyled}
use Rattle.yaml_styled.proofs.StyledLemmas as lemmas
use Rattle.yaml_styled.proofs.styled.styled_rows.Goals as goal

pub returns : goal.returns
returns g c =
    let begun = c.new-lines.result in
    let left = c.read_rows.new.lines in
    let size = c.size_of_rows-size.result in
    let Is = g.V.Build.Means c.in_ok-value.value in
    let bytes = c.size_of_rows-size.ensures.bytes ∙ ap (λ n. c.at_margin.result + 2 * n) c.counted.ensures in
    let lines = c.size_of_rows-size.ensures.lines ∙ c.counted.ensures in
    subst (λ rest. IsStyled Is style_text size c.args.text.now rest) (sym c.rest.ensures)
    (lemmas.styled_rows {Is = Is} left.counted c.at_margin.result size c.args.text.now begun.rest.now left.rest.now begun.counted
    c.new-lines.ensures.rest c.new-lines.ensures.counted c.in_ok-value.ensures.read c.at_margin.ensures.bytes bytes lines)
