-- The locks in memory, as contracts see them.
use Rattle.std.specs.Prelude.{◌≡◌, ⊤}
use Rattle.{conf_locks.specs.{Locks.{Locks, Others}, Models.LockModel}, test_locks.specs.Tables.locks_of}
use Rattle.test_locks.specs.declared.locks.MemoryLocks.{MemoryLocks}

abbrev pub locks_in : MemoryLocks → Locks
locks_in system = locks_of system.table

abbrev pub memory_model : LockModel MemoryLocks
memory_model = record {
  honest = ⊤;
  run = λ system. system.run;
  locks = locks_in;
  opened = λ system. system.opened;
  changes = λ system. system.changes;
}

-- nothing but the locks has changed
pub record OnlyTable (old new : MemoryLocks) : Type 0 where
  pub run : new.run ≡ old.run
  pub opened : new.opened ≡ old.opened
  pub changes : new.changes ≡ old.changes

-- others made their calls, and that is all
pub record Passed (old new : MemoryLocks) : Type 0 where
  pub others : Others old.run (locks_in old) (locks_in new)
  pub only : OnlyTable old new
