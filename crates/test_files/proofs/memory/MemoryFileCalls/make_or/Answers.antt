use Rattle.test_files.{specs.{Replay.call_of, declared.memory.MemoryFileCalls.MemoryFileCalls}, proofs.OneMore.goes-spare}
use Rattle.test_files.proofs.memory.MemoryFileCalls.make_or.Goals as goal

pub returns-in-Err : goal.returns-in-Err
returns-in-Err c =
    let mid = c.keep.new.self in
    let new : MemoryFileCalls = record mid { log = c.keep_spare.new.self } in
    goes-spare c.args.self.now mid new (call_of c.args.change) c.args.spare c.from.result c.in-Err.ensures.not_kept
    c.keep_spare.ensures c.requires
