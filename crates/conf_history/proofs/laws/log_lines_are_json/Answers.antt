use Rattle.conf_history.proofs.JsonTreeLemmas.{lines-are-json}
use Rattle.conf_history.proofs.laws.log_lines_are_json.Goals as goal

pub returns : goal.returns
returns c = lines-are-json
