use Rattle.yaml_forms.proofs.JsonRead.{json_presented, json_line_presented}
use Rattle.yaml_forms.proofs.laws.json_presents.Goals as goal

pub returns-clause-alone : goal.returns-clause-alone
returns-clause-alone c = json_presented

pub returns-clause-line : goal.returns-clause-line
returns-clause-line c = json_line_presented
