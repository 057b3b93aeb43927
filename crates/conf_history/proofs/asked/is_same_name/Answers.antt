use Rattle.std.proofs.Common.{◌∙◌}
use Rattle.yaml_data.proofs.KeyLemmas.{same_key}
use Rattle.conf_history.proofs.asked.is_same_name.Goals as goal

pub returns : goal.returns
returns c = c.eq.ensures ∙ same_key c.args.name.now c.args.other.now c.utf8.name c.utf8.other
