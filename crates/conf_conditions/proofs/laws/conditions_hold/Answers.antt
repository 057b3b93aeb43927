use Rattle.conf_conditions.proofs.ConditionLemmas.{first-none, none-first, first-some}
use Rattle.conf_conditions.proofs.laws.conditions_hold.Goals as goal

pub returns-clause-met : goal.returns-clause-met
returns-clause-met c = λ s conditions. (first-none s conditions, none-first s conditions)

pub returns-clause-unmet : goal.returns-clause-unmet
returns-clause-unmet c = λ s conditions fault is. first-some s conditions fault is
