use Rattle.std.proofs.Common.{sym, subst, ◌∙◌}
use Rattle.yaml_styled.{proofs.Prelude.value_at, specs.Styles.IsStyled}
use Rattle.yaml_styled.proofs.StyledLemmas as lemmas
use Rattle.yaml_styled.proofs.styled.styled_beside.Goals as goal

pub returns : goal.returns
returns g c =
    let begun = c.new-lines.result in
    let left = c.read_beside.new.lines in
    let size = c.size_beside-size.result in
    let Is = g.V.Build.Means c.in_ok-value.value in
    let lines = c.size_beside-size.ensures.lines ∙ c.counted.ensures in
    subst (λ rest. IsStyled Is (λ t. value_at t c.args.indent) size c.args.text.now rest) (sym c.rest.ensures)
    (lemmas.styled_beside {Is = Is} c.args.indent left.counted c.at_margin.result size c.args.text.now begun.rest.now
    left.rest.now begun.counted
    c.new-lines.ensures.rest c.new-lines.ensures.counted c.in_ok-value.ensures c.at_margin.ensures.bytes
    c.size_beside-size.ensures.bytes lines)
