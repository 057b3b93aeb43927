use Rattle.yaml_tree.proofs.GivenLemmas.{refused_none}
use Rattle.yaml_tree.proofs.read_laws.refused_bytes_give_none.Goals as goal

pub returns : goal.returns
returns c = refused_none
