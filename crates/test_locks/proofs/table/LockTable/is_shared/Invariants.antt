use Rattle.std.proofs.Common.{◌≡◌, ◌<◌, ℕ, false, get_or}
use Rattle.test_locks.proofs.table.LockTable.is_shared.Given as goal

abbrev pub invariant-loop-run : goal.invariant-loop-run
invariant-loop-run l = (other : ℕ) → other < l.run → get_or l.self.sharers.items other false ≡ false
