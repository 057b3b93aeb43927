use Rattle.yaml_forms.proofs.PlainRead.{plain_read}
use Rattle.yaml_forms.proofs.laws.plain_reads.Goals as goal

pub returns : goal.returns
returns c = plain_read c.unambiguous.ensures
