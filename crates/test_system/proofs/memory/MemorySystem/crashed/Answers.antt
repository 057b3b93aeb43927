use Rattle.std.proofs.Common.{rules, ◌≡◌, Some, sym}
use Rattle.test_system.{specs.{Crashes.found_after, Memory.memory_machine}, proofs.Left.found_after-left}
use Rattle.test_system.proofs.memory.MemorySystem.crashed.Goals as goal

pub returns-clause-left : goal.returns-clause-left
returns-clause-left c =
    let m = memory_machine c.args.self.now in
    let is : Some (memory_machine c.in_ok-system.system) ≡ found_after m c.args.crash.now = search rules in
    found_after-left m c.args.crash.now (memory_machine c.in_ok-system.system) (sym is)
