use Rattle.yaml_tree.proofs.GivenLemmas.{given_one}
use Rattle.yaml_tree.proofs.read_laws.bytes_give_one.Goals as goal

pub returns : goal.returns
returns c = given_one
