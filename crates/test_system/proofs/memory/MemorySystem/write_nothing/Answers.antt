use Rattle.std.proofs.Common.{refl}
use Rattle.{conf_system.specs.{Machine.Write, declared.system.FileName.TheVariants.{Next, Copy}}, test_system.specs.Memory.memory_machine}
use Rattle.test_system.{specs.declared.memory.MemorySystem.MemorySystem, proofs.Failures.{next_writes_nothing, copy_writes_nothing}}
use Rattle.test_system.proofs.OneMore.{wrote-nothing, wrote-spare}
use Rattle.test_system.proofs.memory.MemorySystem.write_nothing.Goals as goal

pub returns-in-Store-clause-wrote : goal.returns-in-Store-clause-wrote
returns-in-Store-clause-wrote c =
    let new : MemorySystem =
    record { alloc = c.args.self.now.alloc; log = c.keep_spare.new.self; plan = c.args.self.now.plan } in
    rw c.in-Store.is (wrote-spare c.args.self.now new c.keep_spare.ensures)

pub returns-in-Next-clause-wrote : goal.returns-in-Next-clause-wrote
returns-in-Next-clause-wrote c =
    let system = c.args.self.now in
    rw c.in-Next.is (wrote-nothing system system (Write Next) refl (next_writes_nothing (memory_machine system)))

pub returns-in-Copy-clause-wrote : goal.returns-in-Copy-clause-wrote
returns-in-Copy-clause-wrote c =
    let system = c.args.self.now in
    rw c.in-Copy.is (wrote-nothing system system (Write Copy) refl (copy_writes_nothing (memory_machine system)))
