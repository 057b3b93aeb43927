use Rattle.conf_files.proofs.Filled.{wrote-pending, whole-synced}
use Rattle.conf_files.proofs.create.write_new.Goals as goal

pub returns-clause-done : goal.returns-clause-done
returns-clause-done g c h =
    let model = g.C.FileCalls.model in
    whole-synced model c.args.bytes.now c.write_all.new.calls c.sync_new.result c.sync_new.new.self h c.sync_new.ensures
    (wrote-pending c.args.bytes.now (model.machine c.args.calls.now) (model.machine c.write_all.new.calls) (c.requires h)
    (c.in_ok-write_all.ensures h).change)
