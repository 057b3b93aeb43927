use Rattle.test_system.specs.declared.{memory.MemorySystem.MemorySystem, spares.Spare.TheVariants.FailedSync}
use Rattle.test_system.proofs.{OneMore.goes-no-memory, Pushes.keeps-from}
use Rattle.test_system.proofs.memory.MemorySystem.make_sync.Goals as goal

pub returns-in-Err-clause-goes : goal.returns-in-Err-clause-goes
returns-in-Err-clause-goes c =
    let new : MemorySystem =
    record { alloc = c.keep.new.self.alloc; log = c.keep_spare.new.self; plan = c.keep.new.self.plan } in
    goes-no-memory c.args.self.now new c.args.name c.from.result
    (keeps-from (FailedSync c.args.name) c.args.self.now.log c.keep.new.self.log c.keep_spare.new.self c.in-Err.ensures.not_kept
    c.keep_spare.ensures)
