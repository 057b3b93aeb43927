use Rattle.conf_session.proofs.ConditionalLemmas.{guarded}
use Rattle.conf_session.proofs.laws.conditions_guard.Goals as goal

pub returns : goal.returns
returns c = guarded
