use Rattle.std.proofs.Common.{inl, inr, refl, sym, ◌∙◌}
use Rattle.test_locks.proofs.table.LockTable.let_file_go.Goals as goal

pub returns-then-is_run-clause-goes : goal.returns-then-is_run-clause-goes
returns-then-is_run-clause-goes c =
    inl (sym c.holder.ensures ∙ c.is_run.ensures.yes c.if-is_run.true, c.clear_holder.ensures.cleared)

pub returns-else-is_run-clause-goes : goal.returns-else-is_run-clause-goes
returns-else-is_run-clause-goes c =
    inr (λ is. c.is_run.ensures.no c.if-is_run.false (c.holder.ensures ∙ is), refl)
