use Rattle.conf_session.proofs.LengthLemmas.{answer-short}
use Rattle.conf_session.proofs.laws.answers_are_short.Goals as goal

pub returns : goal.returns
returns c = answer-short
