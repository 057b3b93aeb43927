use Rattle.std.proofs.Common.{◌≡◌, rules, ◌<◌, length, get_or, Some}
use Rattle.{conf_system.specs.Machine.replaced, test_system.{specs.Replay.version_of, proofs.Files.map-set-change}}
use Rattle.test_system.proofs.machine.replace_file.Goals as goal

pub returns : goal.returns
returns c =
    let x = c.index_mut.result.now in
    let within : c.args.id < length c.args.files.now.items = search rules in
    let at : x ≡ get_or c.args.files.now.items c.args.id x = search rules in
    map-set-change c.args.files.now.items c.args.id x _ (replaced (Some (version_of c.args.version))) within at
    c.in_ok-replace.ensures
