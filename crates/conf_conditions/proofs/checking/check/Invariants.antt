use Rattle.std.proofs.Common.{◌≡◌, drop}
use Rattle.conf_conditions.specs.Conditions.{conditions_of, first_fault}
use Rattle.conf_conditions.proofs.checking.check.Given as goal

-- those before hold
abbrev pub invariant-conditions : goal.invariant-conditions
invariant-conditions g l =
    first_fault l.store.state (conditions_of (drop l.condition-index l.conditions)) ≡ first_fault l.store.state (conditions_of l.conditions)
