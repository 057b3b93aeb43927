use Rattle.std.proofs.Common.{◌≢◌, ◌<◌, ℕ, Some}
use Rattle.test_locks.specs.Tables.{locks_of}
use Rattle.test_locks.proofs.table.LockTable.holds_file.Given as goal

abbrev pub invariant-loop-file : goal.invariant-loop-file
invariant-loop-file l = (other : ℕ) → other < l.file → (locks_of l.self).holder other ≢ Some l.run
