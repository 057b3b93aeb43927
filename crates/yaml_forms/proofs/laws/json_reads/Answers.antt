use Rattle.yaml_forms.proofs.JsonRead.{json_read, json_line_read}
use Rattle.yaml_forms.proofs.laws.json_reads.Goals as goal

pub returns-clause-alone : goal.returns-clause-alone
returns-clause-alone c = json_read c.unambiguous.ensures

pub returns-clause-line : goal.returns-clause-line
returns-clause-line c = json_line_read c.unambiguous.ensures
