use Rattle.std.proofs.Common.{refl, sym, subst, ◌∙◌}
use Rattle.yaml_styled.{proofs.Prelude.{style_text, Size}, specs.Styles.IsStyled}
use Rattle.yaml_styled.proofs.StyledLemmas as lemmas
use Rattle.yaml_styled.proofs.styled.styled_flat.Goals as goal

pub returns : goal.returns
returns g c =
    let begun = c.new-lines.result in
    let left = c.read_flat.new.lines in
    let size : Size = record { bytes = c.at_margin.result; lines = c.from.result } in
    let Is = g.V.Build.Means c.in_ok-value.value in
    let lines = c.from.ensures ∙ c.counted.ensures in
    subst (λ rest. IsStyled Is style_text size c.args.text.now rest) (sym c.rest.ensures)
    (lemmas.styled_flat {Is = Is} left.counted c.at_margin.result size c.args.text.now begun.rest.now left.rest.now begun.counted
    c.new-lines.ensures.rest c.new-lines.ensures.counted c.in_ok-value.ensures c.at_margin.ensures.bytes refl lines)
