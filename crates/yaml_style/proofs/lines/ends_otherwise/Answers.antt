use Rattle.std.proofs.Common.{◌∙◌}
use Rattle.yaml_style.proofs.RuleLemmas.{another_end}
use Rattle.yaml_style.proofs.lines.ends_otherwise.Goals as goal

pub returns : goal.returns
returns c = c.ne.ensures ∙ another_end c.args.ending.now c.utf8.ending
