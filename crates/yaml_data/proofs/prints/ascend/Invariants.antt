use Rattle.std.proofs.Common.{◌<◌}
use Rattle.yaml_data.proofs.Prelude.{AllAdjacentBelow}
use Rattle.yaml_data.proofs.prints.ascend.Given as goal

-- the numbers before this place ascend
abbrev pub invariant-loop-later : goal.invariant-loop-later
invariant-loop-later l = AllAdjacentBelow (λ a b. a < b) l.numbers l.later
