use Rattle.conf_state.proofs.RunLaws.{after-append}
use Rattle.conf_state.proofs.laws.runs_are_joined.Goals as goal

pub returns : goal.returns
returns c = after-append
