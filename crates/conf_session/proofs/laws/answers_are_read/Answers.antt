use Rattle.{yaml_config.specs.Kept.own_limits, conf_session.proofs.GoodAnswers.answers-read}
use Rattle.conf_session.proofs.laws.answers_are_read.Goals as goal

pub returns : goal.returns
returns c =
    answers-read c.style_reads.ensures.framed c.closed_once.ensures.once (λ bytes t u. c.bytes_give_one.ensures bytes own_limits t u)
