use Rattle.std.proofs.Common.{◌∙◌}
use Rattle.yaml_style.proofs.SplitLemmas.{empty_text}
use Rattle.yaml_style.proofs.findings.is_empty_text.Goals as goal

pub returns : goal.returns
returns c = c.is_empty.ensures ∙ empty_text c.args.text.now c.utf8.text
