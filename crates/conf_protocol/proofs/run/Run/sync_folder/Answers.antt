use Rattle.std.{specs.Prelude.Err, proofs.Common.{Bool, refl, sym, subst}}
use Rattle.{conf_system.specs.Machine.SyncFolder, conf_protocol.specs.declared.run.{Bytes.TheVariants.Unsure, Names.TheVariants.Settled}}
use Rattle.conf_protocol.{specs.Moments.Goes, proofs.{Keeping.{Holds, holds-settled, less_store}, Calls.{settle-step, settle-part}}}
use Rattle.conf_protocol.proofs.Going.{Goes-done, Goes-failed, Goes-before}
use Rattle.conf_disk.specs.Folder as disk
use Rattle.conf_protocol.proofs.run.Run.sync_folder.Goals as goal

pub invariant_of-self : goal.invariant_of-self
invariant_of-self g c =
    let model = g.S.System.model in
    let run = c.args.self.now in
    let m = model.machine run.system in
    let holds = λ (h : model.honest). subst (Holds run.store run.next Settled run.several run.note) (sym (c.in-Ok.ensures.change h))
    (holds-settled run.store run.next run.names run.several run.note m c.in_ok-may_change.ensures
    (record { known = run.known h; safe = run.safe h; noted = run.noted h })) in record {
      known = λ h. (holds h).known;
      safe = λ h. (holds h).safe;
      noted = λ h. (holds h).noted;
    }

pub returns-in-Ok : goal.returns-in-Ok
returns-in-Ok g c h =
    let model = g.S.System.model in
    let run = c.args.self.now in
    let m = model.machine run.system in
    Goes-done model SyncFolder disk.SyncFolder run.several run.several run.system _ c.sync_folder.new.self refl
    (c.in-Ok.ensures.change h) (c.sync_folder.ensures.time h)
    (settle-step run.several m ((run.known h).plain c.in_ok-may_change.ensures) (run.safe h))

pub returns-in-Err : goal.returns-in-Err
returns-in-Err g c h =
    let model = g.S.System.model in
    let run = c.args.self.now in
    let m = model.machine run.system in
    subst (λ (is : Bool). Goes model disk.SyncFolder run.several run.system (Err c.refusal.result) is c.note_doubt.new.self.system)
    (sym c.note_doubt.ensures.same)
    (Goes-before model disk.SyncFolder run.several run.several run.system c.sync_folder.new.self (Err c.refusal.result)
    c.note_doubt.new.self.system
    (Goes-failed model SyncFolder disk.SyncFolder run.several run.system (Err c.refusal.result) c.sync_folder.new.self refl
    (c.in-Err.ensures.change h) (c.sync_folder.ensures.time h) (settle-part run.several m (run.safe h)))
    (c.note_doubt.ensures.quiet h))

pub invariant_of-self-in-Err : goal.invariant_of-self-in-Err
invariant_of-self-in-Err g c =
    let model = g.S.System.model in
    let run = c.args.self.now in
    let m = model.machine run.system in
    let holds = λ (h : model.honest). subst (Holds Unsure run.next run.names run.several run.note) (sym (c.in-Err.ensures.change h).1)
    (less_store run.store run.next run.names run.several run.note m
    (record { known = run.known h; safe = run.safe h; noted = run.noted h })) in record {
      known = λ h. (holds h).known;
      safe = λ h. (holds h).safe;
      noted = λ h. (holds h).noted;
    }
