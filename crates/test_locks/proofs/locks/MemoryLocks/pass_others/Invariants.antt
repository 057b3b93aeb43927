use Rattle.std.proofs.Common.{◌≡◌, vec_len}
use Rattle.test_locks.specs.Memory.{Passed}
use Rattle.test_locks.proofs.locks.MemoryLocks.pass_others.Given as goal

abbrev pub invariant-loop-index : goal.invariant-loop-index
invariant-loop-index l = Passed l.fn.self l.self × (vec_len l.self.others ≡ vec_len l.fn.self.others)
