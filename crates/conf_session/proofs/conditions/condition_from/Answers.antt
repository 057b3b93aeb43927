use Rattle.std.proofs.Common.{◌∙◌}
use Rattle.conf_session.proofs.Prelude.{IfOk-weaker}
use Rattle.conf_session.proofs.conditions.condition_from.Goals as goal

pub returns-in-Some : goal.returns-in-Some
returns-in-Some c = IfOk-weaker c.condition_with.result _ _ (λ made is. is ∙ c.in-Some.ensures.read) c.condition_with.ensures
