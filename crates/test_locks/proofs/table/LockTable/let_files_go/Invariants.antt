use Rattle.std.proofs.Common.{◌≡◌, ◌≢◌, ◌<◌, ℕ, Some, vec_len}
use Rattle.{conf_locks.specs.Locks.Reaches, test_locks.specs.Tables.locks_of}
use Rattle.test_locks.proofs.table.LockTable.let_files_go.Given as goal

abbrev pub invariant-loop-file : goal.invariant-loop-file
invariant-loop-file l = Reaches (locks_of l.fn.self) (locks_of l.self)
    × ((k : ℕ) → k < l.file → (locks_of l.self).holder k ≢ Some l.run)
    × (vec_len l.self.files ≡ vec_len l.fn.self.files)
