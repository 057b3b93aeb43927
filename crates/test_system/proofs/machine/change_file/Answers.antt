use Rattle.std.proofs.Common.{◌≡◌, rules, ◌<◌, length, get_or}
use Rattle.{conf_system.specs.Machine.with_now, test_system.{specs.Replay.changed_by, proofs.Files.map-set-change}}
use Rattle.test_system.proofs.machine.change_file.Goals as goal

pub returns : goal.returns
returns c =
    let x = c.index_mut.result.now in
    let within : c.in-Some.id < length c.args.files.now.items = search rules in
    let at : x ≡ get_or c.args.files.now.items c.in-Some.id x = search rules in
    rw c.in-Some.is (map-set-change c.args.files.now.items c.in-Some.id x _ (with_now (changed_by c.args.change)) within at
    c.in_ok-change.ensures)
