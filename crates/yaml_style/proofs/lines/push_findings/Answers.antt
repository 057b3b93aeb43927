-- Each rule adds its finding, or nothing.
use Rattle.std.proofs.Common.{◌++◌, sym, ap, ◌∙◌}
use Rattle.yaml_style.proofs.{Prelude.on_ok_weaker, RuleLemmas.{all_three, found_same}}
use Rattle.yaml_style.specs.{declared.finding.Rule.TheVariants.{TrailingWhitespace, LineEnd, LongLine}, Findings.ends_in_white}
use Rattle.yaml_style.specs.Findings.{ends_otherwise, is_long}
use Rattle.yaml_style.proofs.lines.push_findings.Goals as goal

pub returns : goal.returns
returns c =
    let white = found_same TrailingWhitespace c.args.number (c.ends_in_white.ensures ∙ ap ends_in_white (sym c.requires.content)) in
    let other = found_same LineEnd c.args.number (c.ends_otherwise.ensures ∙ ap ends_otherwise (sym c.requires.ending)) in
    let long = found_same LongLine c.args.number (c.is_long.ensures ∙ ap is_long (sym c.requires.content)) in
    on_ok_weaker c.push_where-3.result
    (λ third. all_three c.args.findings.now.items _ _ _ _ _ _
    (c.in_ok-push_where.ensures ∙ ap (λ found. c.args.findings.now.items ++ found) white)
    (c.in_ok-push_where-2.ensures ∙ ap (λ found. c.push_where.new.findings.items ++ found) other)
    (third ∙ ap (λ found. c.push_where-2.new.findings.items ++ found) long))
    c.push_where-3.ensures
