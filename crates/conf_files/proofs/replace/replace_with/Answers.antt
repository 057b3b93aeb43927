use Rattle.std.proofs.Common.{refl}
use Rattle.conf_files.proofs.Replacing.{from-err, told-rights, Standing-told, Standing-staged, Reaches-unmade, Reaches-kept}
use Rattle.conf_files.proofs.Replacing.{Reaches-unlinked, Replaces-kept, Replaces-settled}
use Rattle.conf_files.proofs.replace.replace_with.Goals as goal

pub returns-in_err-blame : goal.returns-in_err-blame
returns-in_err-blame g c =
    let model = g.C.FileCalls.model in
    let bytes = c.args.bytes.now in
    let old = c.args.calls.now in
    let told = c.old_rights.new.self in
    Replaces-kept model bytes old c.from_residual-in_err-blame.result c.create_staged.new.calls
    c.from_residual-in_err-blame.ensures.0 c.requires
    (λ h. Reaches-unmade model bytes old told c.create_staged.result c.create_staged.new.calls h
    (from-err c.create_staged.result c.blame-2.result _ _ c.blame-2.ensures c.in_err-blame.was) (c.requires h)
    (c.old_rights.ensures.same h) (Standing-told model old told (c.requires h) (c.old_rights.ensures.same h) (c.old_rights.ensures.time h))
    c.create_staged.ensures)

pub returns-in-Err : goal.returns-in-Err
returns-in-Err g c =
    let model = g.C.FileCalls.model in
    let bytes = c.args.bytes.now in
    let old = c.args.calls.now in
    let told = c.old_rights.new.self in
    let staged = c.create_staged.new.calls in
    let replaced = c.in_ok-replaced.replaced in
    let is = λ (h : model.honest). told-rights c.old_rights.result c.blame.result _ replaced (model.machine old) c.blame.ensures
    c.in_ok-replaced.was (c.old_rights.ensures.told h) in
    Replaces-kept model bytes old _ c.unlink_beside.new.self refl c.requires
    (λ h. Reaches-unlinked model bytes old c.swap_in.new.calls c.unlink_beside.result c.unlink_beside.new.self h
    (Reaches-kept model replaced bytes old staged c.swap_in.new.calls (is h)
    (Standing-staged model old told c.create_staged.result c.blame-2.result _ c.in_ok-blame.field-0 staged c.blame-2.ensures
    c.in_ok-blame.was h (Standing-told model old told (c.requires h) (c.old_rights.ensures.same h) (c.old_rights.ensures.time h))
    c.create_staged.ensures)
    (c.swap_in.ensures.keeps h)) c.unlink_beside.ensures)

pub returns : goal.returns
returns g c =
    let model = g.C.FileCalls.model in
    let bytes = c.args.bytes.now in
    let old = c.args.calls.now in
    let told = c.old_rights.new.self in
    let staged = c.create_staged.new.calls in
    let swapped = c.swap_in.new.calls in
    let replaced = c.in_ok-replaced.replaced in
    let is = λ (h : model.honest). told-rights c.old_rights.result c.blame.result _ replaced (model.machine old) c.blame.ensures
    c.in_ok-replaced.was (c.old_rights.ensures.told h) in
    Replaces-settled model replaced bytes old swapped c.sync_folder.result c.blame-3.result _ c.sync_folder.new.self c.blame-3.ensures
    c.requires is
    (λ h. Reaches-kept model replaced bytes old staged swapped (is h)
    (Standing-staged model old told c.create_staged.result c.blame-2.result _ c.in_ok-blame.field-0 staged c.blame-2.ensures
    c.in_ok-blame.was h (Standing-told model old told (c.requires h) (c.old_rights.ensures.same h) (c.old_rights.ensures.time h))
    c.create_staged.ensures)
    (c.swap_in.ensures.keeps h))
    (λ h. c.in_default.ensures.done h) c.sync_folder.ensures
