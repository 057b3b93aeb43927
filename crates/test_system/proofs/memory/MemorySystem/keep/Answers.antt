use Rattle.std.proofs.Common.{◌∙◌, ap, Option, ℕ}
use Rattle.test_system.{specs.{Replay.call_of, Log.{then, entries}, declared.memory.MemorySystem.MemorySystem}, proofs.OneMore.goes-done}
use Rattle.test_system.proofs.OneMore.{goes-failed}
use Rattle.test_system.proofs.memory.MemorySystem.keep.Goals as goal

pub returns-in-None-clause-goes : goal.returns-in-None-clause-goes
returns-in-None-clause-goes c =
    let new : MemorySystem = record { alloc = c.args.self.now.alloc; log = c.keep.new.self; plan = c.args.self.now.plan } in
    goes-done c.args.self.now new (call_of c.args.change) (c.in_ok-keep.ensures.kept
    ∙ ap (λ (f : Option ℕ). then (entries c.args.self.now.log) (call_of c.args.change) f) c.in-None.is)

pub returns-in-Some-clause-goes : goal.returns-in-Some-clause-goes
returns-in-Some-clause-goes c =
    let new : MemorySystem = record { alloc = c.args.self.now.alloc; log = c.keep.new.self; plan = c.args.self.now.plan } in
    goes-failed c.args.self.now new (call_of c.args.change) c.in-Some.field-0 c.device_error.result (c.in_ok-keep.ensures.kept
    ∙ ap (λ (f : Option ℕ). then (entries c.args.self.now.log) (call_of c.args.change) f) c.in-Some.is)
