use Rattle.std.proofs.Common.{◌∙◌, ap, refl}
use Rattle.{file_calls.specs.Machine.{Names, Machine}, conf_files.proofs.{Replacing.from-err, Making.{begun, Making-begun, Making-filled}}}
use Rattle.conf_files.proofs.Making.{Making-unlinked, Making-not_begun, Creates-failed, Creates-settled}
use Rattle.conf_files.proofs.create.create_with.Goals as goal

pub returns-in_err-blame : goal.returns-in_err-blame
returns-in_err-blame g c =
    let model = g.C.FileCalls.model in
    Creates-failed model c.args.bytes.now c.args.calls.now c.from_residual.result c.create_given.new.self c.from_residual.ensures.0
    c.requires
    (λ h. Making-not_begun model c.args.bytes.now c.args.calls.now c.create_given.result c.create_given.new.self
    (from-err c.create_given.result c.blame.result _ _ c.blame.ensures c.in_err-blame.was) h (c.requires h) c.create_given.ensures)

pub returns-in-Err : goal.returns-in-Err
returns-in-Err g c =
    let model = g.C.FileCalls.model in
    let bytes = c.args.bytes.now in
    let old = c.args.calls.now in
    let created = c.create_given.new.self in
    let start = begun model old c.create_given.result c.blame.result _ c.in_ok-blame.field-0 created c.blame.ensures c.in_ok-blame.was
    c.create_given.ensures in
    let making = λ (h : model.honest). Making-filled model bytes old created c.write_new.new.calls (start h).0
    (Making-begun model bytes old created (c.requires h) (start h) (c.create_given.ensures.time h)) (c.write_new.ensures.fills h) in
    Creates-failed model bytes old _ c.unlink_given.new.self refl c.requires
    (λ h. Making-unlinked model bytes old c.write_new.new.calls c.unlink_given.result c.unlink_given.new.self h (c.requires h)
    (start h).0 (making h) c.unlink_given.ensures)

pub returns : goal.returns
returns g c =
    let model = g.C.FileCalls.model in
    let bytes = c.args.bytes.now in
    let old = c.args.calls.now in
    let created = c.create_given.new.self in
    let written = c.write_new.new.calls in
    let start = begun model old c.create_given.result c.blame.result _ c.in_ok-blame.field-0 created c.blame.ensures c.in_ok-blame.was
    c.create_given.ensures in
    let making = λ (h : model.honest). Making-filled model bytes old created written (start h).0
    (Making-begun model bytes old created (c.requires h) (start h) (c.create_given.ensures.time h)) (c.write_new.ensures.fills h) in
    Creates-settled model bytes old written c.sync_folder.result c.blame-2.result _ c.sync_folder.new.self c.blame-2.ensures c.requires
    (λ h. (start h).0) making
    (λ h. ap (λ (names : Names). names.given) (c.write_new.ensures.fills h).now.frame.now
    ∙ ap (λ (m : Machine). m.now.given) (start h).1.2)
    (λ h. c.in_default.ensures.done h) c.sync_folder.ensures
