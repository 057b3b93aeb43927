use Rattle.std.proofs.Common.{inl, inr, refl}
use Rattle.test_locks.proofs.table.LockTable.let_folder_go.Goals as goal

pub returns-then-is_run : goal.returns-then-is_run
returns-then-is_run c = inl (c.is_run.ensures.yes c.if-is_run.true, refl)

pub returns-else-is_run : goal.returns-else-is_run
returns-else-is_run c = inr (c.is_run.ensures.no c.if-is_run.false, refl)
