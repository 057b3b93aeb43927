use Rattle.std.{proofs.Common.{◌≡◌, Bool, refl, sym, subst, rules}, specs.Prelude.Err}
use Rattle.conf_system.specs.{declared.system.FileName.TheVariants.Store, Machine.Sync}
use Rattle.conf_protocol.{specs.{declared.run.Bytes.TheVariants.{OnDevice, Unsure}, Moments.Goes}, proofs.Keeping.Holds}
use Rattle.conf_protocol.proofs.{Keeping.{holds-store_synced, holds-store_failed}, Calls.{sync_store-step, sync_store-part}}
use Rattle.conf_protocol.proofs.Going.{Goes-done, Goes-failed, Goes-before}
use Rattle.conf_disk.specs.Folder as disk
use Rattle.conf_disk.specs.declared.disk.Name.TheVariants as disk_name
use Rattle.conf_protocol.proofs.run.Run.sync_store.Goals as goal

pub invariant_of-self : goal.invariant_of-self
invariant_of-self g c =
    let model = g.S.System.model in
    let run = c.args.self.now in
    let m = model.machine run.system in
    let sure : run.store ≡ Unsure → ⊥ = search rules in
    let holds = λ (h : model.honest). subst (Holds OnDevice run.next run.names run.several run.note) (sym (c.in-Ok.ensures.change h))
    (holds-store_synced run.store run.next run.names run.several run.note m (g.met.S.System.sound run.system h)
    c.in_ok-may_change.ensures sure (record { known = run.known h; safe = run.safe h; noted = run.noted h })) in record {
      known = λ h. (holds h).known;
      safe = λ h. (holds h).safe;
      noted = λ h. (holds h).noted;
    }

pub invariant_of-self-in-Err : goal.invariant_of-self-in-Err
invariant_of-self-in-Err g c =
    let model = g.S.System.model in
    let run = c.args.self.now in
    let m = model.machine run.system in
    let holds = λ (h : model.honest). subst (Holds Unsure run.next run.names run.several run.note) (sym (c.in-Err.ensures.change h).1)
    (holds-store_failed run.store run.next run.names run.several run.note m (g.met.S.System.sound run.system h)
    c.in_ok-may_change.ensures (record { known = run.known h; safe = run.safe h; noted = run.noted h })) in record {
      known = λ h. (holds h).known;
      safe = λ h. (holds h).safe;
      noted = λ h. (holds h).noted;
    }

pub returns-in-Ok : goal.returns-in-Ok
returns-in-Ok g c h =
    let model = g.S.System.model in
    let run = c.args.self.now in
    let m = model.machine run.system in
    let sure : run.store ≡ Unsure → ⊥ = search rules in
    Goes-done model (Sync Store) (disk.Sync disk_name.Store) run.several run.several run.system _ c.sync.new.self refl
    (c.in-Ok.ensures.change h) (c.sync.ensures.time h)
    (sync_store-step run.several m run.store (g.met.S.System.sound run.system h) ((run.known h).plain c.in_ok-may_change.ensures)
    sure (run.known h).store_so (run.safe h))

pub returns-in-Err : goal.returns-in-Err
returns-in-Err g c h =
    let model = g.S.System.model in
    let run = c.args.self.now in
    let m = model.machine run.system in
    subst (λ (is : Bool). Goes model (disk.Sync disk_name.Store) run.several run.system (Err c.refusal.result) is
    c.note_doubt.new.self.system)
    (sym c.note_doubt.ensures.same)
    (Goes-before model (disk.Sync disk_name.Store) run.several run.several run.system c.sync.new.self (Err c.refusal.result)
    c.note_doubt.new.self.system
    (Goes-failed model (Sync Store) (disk.Sync disk_name.Store) run.several run.system (Err c.refusal.result) c.sync.new.self refl
    (c.in-Err.ensures.change h) (c.sync.ensures.time h)
    (sync_store-part run.several m (g.met.S.System.sound run.system h) (run.safe h)))
    (c.note_doubt.ensures.quiet h))
