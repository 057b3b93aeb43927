use Rattle.std.proofs.Common.{sym, subst, ◌∙◌}
use Rattle.yaml_styled.{proofs.Prelude.{chars, key_lines}, specs.Comparing.GoesOn}
use Rattle.yaml_styled.proofs.styled.read_key.Goals as goal

pub returns : goal.returns
returns c =
    let i = c.args.indent in
    subst (λ bytes. GoesOn c.args.lines.now (key_lines i (chars bytes)) c.rest.result.now) (sym c.in_ok-text.ensures)
    (subst (λ rest. GoesOn c.args.lines.now (key_lines i (chars c.in_ok-key.key.now)) rest) (sym c.rest.ensures)
    (sym c.new-left.ensures.rest ∙ c.in_ok-key.ensures.goes_on))
