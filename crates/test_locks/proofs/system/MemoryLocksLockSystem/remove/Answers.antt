use Rattle.std.proofs.Common.{Bool, subst}
use Rattle.{conf_locks.specs.Locks.Remove, test_locks.{specs.{Memory.locks_in, Tables.Does}, proofs.Going.goes-may}}
use Rattle.test_locks.proofs.system.MemoryLocksLockSystem.remove.Goals as goal

pub returns-then-make_own : goal.returns-then-make_own
returns-then-make_own c =
    let mid = c.pass_others-fails.new.self in
    let new = c.make_own.new.self in
    record {
      goes = λ h. goes-may c.args.self.now mid new Remove c.pass_others-fails.ensures
          (subst (λ (b : Bool). Does mid.run Remove b (locks_in mid) (locks_in new)) c.if-make_own.true c.make_own.ensures.does)
          c.make_own.ensures.same.run;
    }
