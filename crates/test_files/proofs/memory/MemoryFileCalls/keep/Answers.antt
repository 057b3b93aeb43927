use Rattle.std.proofs.Common.{◌∙◌, ap, Option, ℕ}
use Rattle.test_files.specs.{Log.history_of, Replay.{call_of, then}, declared.memory.MemoryFileCalls.MemoryFileCalls}
use Rattle.test_files.proofs.OneMore.{goes-done, goes-failed}
use Rattle.test_files.proofs.memory.MemoryFileCalls.keep.Goals as goal

pub returns-in-None-clause-goes : goal.returns-in-None-clause-goes
returns-in-None-clause-goes c =
    let old = c.args.self.now in
    let new : MemoryFileCalls = record old { log = c.keep.new.self } in
    goes-done old new (call_of c.args.change) (c.in_ok-keep.ensures.kept
    ∙ ap (λ (f : Option ℕ). then (history_of old.log) (call_of c.args.change) f) c.in-None.is)

pub returns-in-Some-clause-goes : goal.returns-in-Some-clause-goes
returns-in-Some-clause-goes c =
    let old = c.args.self.now in
    let new : MemoryFileCalls = record old { log = c.keep.new.self } in
    goes-failed old new (call_of c.args.change) c.in-Some.field-0 c.device_error.result (c.in_ok-keep.ensures.kept
    ∙ ap (λ (f : Option ℕ). then (history_of old.log) (call_of c.args.change) f) c.in-Some.is)
