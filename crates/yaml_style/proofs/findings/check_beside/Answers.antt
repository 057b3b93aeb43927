-- The wanted text was compared with the text.
use Rattle.std.proofs.Common.{ap, ◌∙◌}
use Rattle.yaml_style.{proofs.Prelude.chars, specs.Findings.with_style}
use Rattle.yaml_style.proofs.findings.check_beside.Goals as goal

pub style_line-requires-clause-written : goal.style_line-requires-clause-written
style_line-requires-clause-written c = (chars c.args.wanted.now, c.compare-agrees.ensures)

pub returns : goal.returns
returns c =
    c.in_ok-insert_style.ensures
    ∙ ap (λ line. with_style line c.in_ok-findings.findings.items) (c.style_line.ensures (chars c.args.wanted.now) c.compare-agrees.ensures)
    ∙ ap (with_style _) c.in_ok-findings.ensures
