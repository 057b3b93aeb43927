use Rattle.std.proofs.Common.{Bool, subst}
use Rattle.{conf_locks.specs.Locks.Mark, test_locks.{specs.{Memory.locks_in, Tables.Does}, proofs.Going.goes-mark}}
use Rattle.test_locks.proofs.system.MemoryLocksLockSystem.mark.Goals as goal

pub returns-then-make_own-clause-goes : goal.returns-then-make_own-clause-goes
returns-then-make_own-clause-goes c h =
    let mid = c.pass_others-fails.new.self in
    let new = c.make_own.new.self in
    let file = c.in-Some.file in
    goes-mark c.args.self.now mid new file c.pass_others-fails.ensures
    (subst (λ (b : Bool). Does mid.run (Mark file) b (locks_in mid) (locks_in new)) c.if-make_own.true c.make_own.ensures.does)
    c.make_own.ensures.same.run c.in-Some.is
