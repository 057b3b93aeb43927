use Rattle.tree_hidden.proofs.ShownLemmas.{all-shown}
use Rattle.tree_hidden.proofs.laws.nothing_hidden_is_json.Goals as goal

pub returns : goal.returns
returns c = all-shown
