use Rattle.conf_state.proofs.RunLaws.{after-count}
use Rattle.conf_state.proofs.laws.accepted_commands_are_counted.Goals as goal

pub returns : goal.returns
returns c = after-count
