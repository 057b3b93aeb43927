use Rattle.std.proofs.Common.{◌≡◌}
use Rattle.conf_conditions.proofs.indexing.index_for.Given as goal

abbrev pub invariant-conditions : goal.invariant-conditions
invariant-conditions g l = l.store ≡ l.fn.store
