use Rattle.conf_session.proofs.SinkLemmas.{none-is-taken-back}
use Rattle.conf_session.proofs.laws.answers_stand.Goals as goal

pub returns : goal.returns
returns g c = none-is-taken-back g.D.Disk.model
