use Rattle.conf_session.proofs.AnsweredLemmas.{each-answered}
use Rattle.conf_session.proofs.laws.requests_are_answered.Goals as goal

pub returns : goal.returns
returns c = each-answered
