use Rattle.std.proofs.Common.{◌≡◌, refl}
use Rattle.{conf_system.specs.Machine.{RenameNext, after}, conf_protocol.proofs.{Shown.{blamed-ok, blamed-err}, Calls.rename-step}}
use Rattle.conf_protocol.proofs.{Calls.{rename-part, next-some}, Going.{Goes-done, Goes-failed}}
use Rattle.conf_disk.specs.Folder as disk
use Rattle.conf_protocol.proofs.run.Run.replace_store.Goals as goal

pub returns-in_err-blame : goal.returns-in_err-blame
returns-in_err-blame g c h =
    let model = g.S.System.model in
    let run = c.args.self.now in
    let m = model.machine run.system in
    let apart = (run.known h).apart c.requires.may in
    Goes-failed model RenameNext disk.RenameNext run.several run.system c.from_residual.result c.rename_next.new.self
    c.from_residual.ensures.0
    (blamed-err c.rename_next.result _ _ _ _ c.in_err-blame.ensures (c.rename_next.ensures.change h)) (c.rename_next.ensures.time h)
    (rename-part run.several m (next-some m apart (c.requires.there h), apart) (c.requires.off h))

pub returns : goal.returns
returns g c h =
    let model = g.S.System.model in
    let run = c.args.self.now in
    let m = model.machine run.system in
    let apart = (run.known h).apart c.requires.may in
    let done = blamed-ok c.rename_next.result _ _ (λ _. model.machine c.rename_next.new.self ≡ after RenameNext m) _
    c.in_ok-blame.ensures (c.rename_next.ensures.change h) in
    Goes-done model RenameNext disk.RenameNext run.several _ run.system _ c.rename_next.new.self refl done
    (c.rename_next.ensures.time h)
    (rename-step run.several m (next-some m apart (c.requires.there h), apart) (c.requires.off h))
