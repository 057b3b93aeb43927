use Rattle.yaml_forms.proofs.PlainRead.{plain_presented}
use Rattle.yaml_forms.proofs.laws.plain_presents.Goals as goal

pub returns : goal.returns
returns c = plain_presented
