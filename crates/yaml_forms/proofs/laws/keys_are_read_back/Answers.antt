use Rattle.yaml_forms.proofs.KeysRead.{keys_read_back}
use Rattle.yaml_forms.proofs.laws.keys_are_read_back.Goals as goal

pub returns : goal.returns
returns c = keys_read_back c.unambiguous.ensures
