use Rattle.yaml_forms.proofs.JsonIsJson.{json_is_json, json_line_is_json}
use Rattle.yaml_forms.proofs.laws.json_is_json.Goals as goal

pub returns-clause-alone : goal.returns-clause-alone
returns-clause-alone c = json_is_json

pub returns-clause-line : goal.returns-clause-line
returns-clause-line c = json_line_is_json
