use Rattle.std.proofs.Common.{ap}
use Rattle.{conf_system.specs.Machine.Machine, test_system.{specs.declared.memory.MemorySystem.MemorySystem, proofs.OneMore.reads-note}}
use Rattle.test_system.proofs.OneMore.{reads-no-note}
use Rattle.test_system.proofs.memory.MemorySystem.look_at_note.Goals as goal

pub returns-in-Ok-keep-clause-reads : goal.returns-in-Ok-keep-clause-reads
returns-in-Ok-keep-clause-reads c =
    let new : MemorySystem = record { alloc = c.args.self.now.alloc; log = c.keep.new.self; plan = c.args.self.now.plan } in
    reads-note c.args.self.now new c.in-Ok.machine.note (ap (λ (m : Machine). m.note) c.in-Ok.ensures) c.in-Ok-keep.ensures.kept

pub returns-in-Ok-keep-2-clause-reads : goal.returns-in-Ok-keep-2-clause-reads
returns-in-Ok-keep-2-clause-reads c =
    let new : MemorySystem =
    record { alloc = c.args.self.now.alloc; log = c.keep-in-Some.new.self; plan = c.args.self.now.plan } in
    reads-no-note c.args.self.now new c.device_error.result c.in-Ok-keep-2.ensures.kept
