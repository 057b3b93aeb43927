use Rattle.std.proofs.Common.{◌∙◌, length}
use Rattle.conf_files.proofs.{Filled.{wrote-pending, filled-synced}, Standing.{KeepsStanding-wrote, KeepsStanding-synced}}
use Rattle.conf_files.proofs.Standing.{KeepsStanding-joined}
use Rattle.conf_files.proofs.replace.write_staged.Goals as goal

pub returns-in_err-write_all-clause-keeps : goal.returns-in_err-write_all-clause-keeps
returns-in_err-write_all-clause-keeps g c h =
    let wrote = c.in_err-write_all.ensures h in
    KeepsStanding-wrote g.C.FileCalls.model c.args.replaced c.args.bytes.now wrote.0 c.args.calls.now c.write_all.new.calls wrote.1

pub returns-in_err-take_after-clause-keeps : goal.returns-in_err-take_after-clause-keeps
returns-in_err-take_after-clause-keeps g c h =
    let model = g.C.FileCalls.model in
    let bytes = c.args.bytes.now in
    KeepsStanding-joined model c.args.replaced c.args.calls.now c.write_all.new.calls c.take_after.new.calls
    (KeepsStanding-wrote model c.args.replaced bytes (length bytes) c.args.calls.now c.write_all.new.calls (c.in_ok-write_all.ensures h))
    (c.take_after.ensures.keeps h)

pub returns-clause-done : goal.returns-clause-done
returns-clause-done g c h =
    let model = g.C.FileCalls.model in
    let bytes = c.args.bytes.now in
    filled-synced model c.args.replaced bytes c.take_after.new.calls c.sync_new.result c.sync_new.new.self h c.sync_new.ensures
    (c.take_after.ensures.bytes h
    ∙ wrote-pending bytes (model.machine c.args.calls.now) (model.machine c.write_all.new.calls) (c.requires h).empty
    (c.in_ok-write_all.ensures h).change)
    (c.in_ok-take_after.ensures.done h)

pub returns-clause-keeps : goal.returns-clause-keeps
returns-clause-keeps g c h =
    let model = g.C.FileCalls.model in
    let bytes = c.args.bytes.now in
    KeepsStanding-joined model c.args.replaced c.args.calls.now c.take_after.new.calls c.sync_new.new.self
    (KeepsStanding-joined model c.args.replaced c.args.calls.now c.write_all.new.calls c.take_after.new.calls
    (KeepsStanding-wrote model c.args.replaced bytes (length bytes) c.args.calls.now c.write_all.new.calls (c.in_ok-write_all.ensures h))
    (c.take_after.ensures.keeps h))
    (KeepsStanding-synced model c.args.replaced c.take_after.new.calls c.sync_new.result c.sync_new.new.self h c.sync_new.ensures)
