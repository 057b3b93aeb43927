use Rattle.test_locks.{specs.{Memory.locks_in, Tables.call_of}, proofs.Going.reaches-does}
use Rattle.test_locks.proofs.locks.MemoryLocks.ask.Goals as goal

pub returns-then-make_own-clause-reaches : goal.returns-then-make_own-clause-reaches
returns-then-make_own-clause-reaches c =
    reaches-does c.args.self.now.run (call_of c.args.call) c.make_own.result (locks_in c.args.self.now)
    (locks_in c.make_own.new.self) c.make_own.ensures.does
