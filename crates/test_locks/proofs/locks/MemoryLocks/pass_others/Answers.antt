use Rattle.std.proofs.Common.{refl}
use Rattle.test_locks.{specs.declared.locks.MemoryLocks.MemoryLocks, proofs.Going.passed-more}
use Rattle.test_locks.proofs.locks.MemoryLocks.pass_others.Goals as goal

pub loop-index-preserved : goal.loop-index-preserved
loop-index-preserved c =
    let mid = c.loop-index.self in
    let new : MemoryLocks = record mid { table = c.make_due.new.self } in (
      passed-more c.args.self.now mid new _ _ c.make_due.result c.loop-index.invariant.0 c.make_due.ensures
          (record { run = refl; opened = refl; changes = refl }),
      c.loop-index.invariant.1,
    )
