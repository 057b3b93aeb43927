use Rattle.std.proofs.Common.{Bool, Some, ◌+◌, subst, refl}
use Rattle.{conf_locks.specs.Locks.Make, test_locks.specs.{Memory.locks_in, Tables.Does, declared.locks.MemoryLocks.MemoryLocks}}
use Rattle.test_locks.proofs.Going.{goes-made}
use Rattle.test_locks.proofs.system.MemoryLocksLockSystem.make.Goals as goal

pub returns-then-make_own-clause-goes : goal.returns-then-make_own-clause-goes
returns-then-make_own-clause-goes c h =
    let mid = c.pass_others-fails.new.self in
    let made = c.make_own.new.self in
    let file = c.len-file.result in
    let new : MemoryLocks = record made { opened = Some file; changes = made.changes + 1 } in
    goes-made c.args.self.now mid new file c.pass_others-fails.ensures
    (subst (λ (b : Bool). Does mid.run (Make file) b (locks_in mid) (locks_in made)) c.if-make_own.true c.make_own.ensures.does)
    c.make_own.ensures.same.run refl
