use Rattle.std.proofs.Common.{◌≡◌, refl, sym, subst, rules}
use Rattle.conf_system.specs.{declared.system.FileName.TheVariants.Next, Machine.Sync}
use Rattle.conf_protocol.{specs.declared.run.Bytes.TheVariants.{OnDevice, Unsure}, proofs.Keeping.{Holds, holds-next_synced}}
use Rattle.conf_protocol.proofs.{Keeping.holds-next_failed, Calls.{sync_next-step, sync_next-part}, Going.{Goes-done, Goes-failed}}
use Rattle.conf_disk.specs.Folder as disk
use Rattle.conf_disk.specs.declared.disk.Name.TheVariants as disk_name
use Rattle.conf_protocol.proofs.run.Run.sync_next.Goals as goal

pub invariant_of-self : goal.invariant_of-self
invariant_of-self g c =
    let model = g.S.System.model in
    let run = c.args.self.now in
    let m = model.machine run.system in
    let sure : run.next ≡ Unsure → ⊥ = search rules in
    let holds = λ (h : model.honest). subst (Holds run.store OnDevice run.names run.several run.note) (sym (c.in-Ok.ensures.change h))
    (holds-next_synced run.store run.next run.names run.several run.note m (g.met.S.System.sound run.system h)
    c.in_ok-may_change.ensures sure (record { known = run.known h; safe = run.safe h; noted = run.noted h })) in record {
      known = λ h. (holds h).known;
      safe = λ h. (holds h).safe;
      noted = λ h. (holds h).noted;
    }

pub invariant_of-self-in-Err : goal.invariant_of-self-in-Err
invariant_of-self-in-Err g c =
    let model = g.S.System.model in
    let run = c.args.self.now in
    let m = model.machine run.system in
    let holds = λ (h : model.honest). subst (Holds run.store Unsure run.names run.several run.note) (sym (c.in-Err.ensures.change h).1)
    (holds-next_failed run.store run.next run.names run.several run.note m (g.met.S.System.sound run.system h)
    c.in_ok-may_change.ensures (record { known = run.known h; safe = run.safe h; noted = run.noted h })) in record {
      known = λ h. (holds h).known;
      safe = λ h. (holds h).safe;
      noted = λ h. (holds h).noted;
    }

pub returns-in-Ok : goal.returns-in-Ok
returns-in-Ok g c h =
    let model = g.S.System.model in
    let run = c.args.self.now in
    let m = model.machine run.system in
    let sure : run.next ≡ Unsure → ⊥ = search rules in
    Goes-done model (Sync Next) (disk.Sync disk_name.Next) run.several run.several run.system _ c.sync.new.self refl
    (c.in-Ok.ensures.change h) (c.sync.ensures.time h)
    (sync_next-step run.several m run.next ((run.known h).plain c.in_ok-may_change.ensures)
    ((run.known h).apart c.in_ok-may_change.ensures) sure (run.known h).next_so (run.safe h))

pub returns-in-Err : goal.returns-in-Err
returns-in-Err g c h =
    let model = g.S.System.model in
    let run = c.args.self.now in
    let m = model.machine run.system in
    Goes-failed model (Sync Next) (disk.Sync disk_name.Next) run.several run.system _ c.sync.new.self refl
    (c.in-Err.ensures.change h) (c.sync.ensures.time h) (sync_next-part run.several m (run.safe h))
