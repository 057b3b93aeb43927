use Rattle.conf_session.proofs.PassedLemmas.{acknowledged-all}
use Rattle.conf_session.proofs.laws.answers_acknowledge.Goals as goal

pub returns : goal.returns
returns c = acknowledged-all
