use Rattle.std.proofs.Common.{arith}
use Rattle.conf_state.proofs.{Prelude.{chars, tree_of}, LimitLemmas.entries_length-put}
use Rattle.conf_state.proofs.state.State.length_with.Goals as goal

pub returns : goal.returns
returns c = omega (arith, entries_length-put c.args.self.now.configs (chars c.args.name.now) (tree_of c.args.config.now))
