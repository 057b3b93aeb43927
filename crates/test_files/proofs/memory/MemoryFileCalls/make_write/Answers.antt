use Rattle.std.proofs.Common.{rules, ◌≡◌, take}
use Rattle.test_files.proofs.OneMore.{wrote-failed}
use Rattle.test_files.proofs.memory.MemoryFileCalls.make_write.Goals as goal

pub returns-in-Err-make : goal.returns-in-Err-make
returns-in-Err-make c h =
    let bytes = c.args.bytes.now in
    let count = c.offered-count.result in
    let kept : c.in-Ok.kept.items ≡ take count bytes = search rules in
    wrote-failed c.args.self.now c.make.new.self bytes c.in-Ok.kept.items count c.in-Err-make.error
    c.offered-count.ensures.within kept c.in-Err-make.ensures
