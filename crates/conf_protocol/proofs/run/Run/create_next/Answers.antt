use Rattle.std.proofs.Common.{◌≡◌, true, refl, sym, ◌∙◌, subst}
use Rattle.{conf_system.specs.Machine.{CreateNext, after}, conf_protocol.specs.{Keeps.may_change, declared.run.Bytes.TheVariants.OnDevice}}
use Rattle.conf_protocol.{specs.declared.run.Bytes.TheVariants.Unsure, proofs.{Shown.{call-either, blamed-ok, blamed-err}, Keeping.Holds}}
use Rattle.conf_protocol.proofs.{Keeping.{other_names, holds-created, holds-create_part, less_next, next-none}, Calls.create-step}
use Rattle.conf_protocol.proofs.{Calls.create-part, Going.{Goes-done, Goes-failed}}
use Rattle.conf_disk.specs.Folder as disk
use Rattle.conf_protocol.proofs.run.Run.create_next.Goals as goal

pub invariant_of-self : goal.invariant_of-self
invariant_of-self g c =
    let model = g.S.System.model in
    let run = c.args.self.now in
    let names = c.changed-self.result in
    let m = model.machine run.system in
    let new = model.machine c.create_next.new.self in
    let may : may_change names ≡ true = c.changed-self.ensures.may ∙ c.in_ok-may_change.ensures in
    let unsettled = c.changed-self.ensures.unsettled in
    let holds = λ (h : model.honest). (
    let held = other_names run.store run.next run.names names run.several run.note m c.changed-self.ensures.kept
    c.changed-self.ensures.may unsettled
    (record { known = run.known h; safe = run.safe h; noted = run.noted h }) in
    let sound = g.met.S.System.sound run.system h in
    call-either CreateNext m new c.create_next.result (Holds run.store Unsure names run.several run.note)
    (c.create_next.ensures.change h)
    (less_next run.store OnDevice names run.several run.note (after CreateNext m)
    (holds-created run.store run.next names run.several run.note m sound may unsettled held))
    (holds-create_part run.store run.next names run.several run.note m sound may unsettled held)) in record {
      known = λ h. (holds h).known;
      safe = λ h. (holds h).safe;
      noted = λ h. (holds h).noted;
    }

pub invariant_of-self-2 : goal.invariant_of-self-2
invariant_of-self-2 g c =
    let model = g.S.System.model in
    let run = c.args.self.now in
    let names = c.changed-self.result in
    let m = model.machine run.system in
    let new = model.machine c.create_next.new.self in
    let may : may_change names ≡ true = c.changed-self.ensures.may ∙ c.in_ok-may_change.ensures in
    let unsettled = c.changed-self.ensures.unsettled in
    let holds = λ (h : model.honest). (
    let held = other_names run.store run.next run.names names run.several run.note m c.changed-self.ensures.kept
    c.changed-self.ensures.may unsettled
    (record { known = run.known h; safe = run.safe h; noted = run.noted h }) in
    let done : new ≡ after CreateNext m = blamed-ok c.create_next.result _ _ (λ _. new ≡ after CreateNext m) _
    c.in_ok-blame.ensures (c.create_next.ensures.change h) in
    subst (Holds run.store OnDevice names run.several run.note) (sym done)
    (holds-created run.store run.next names run.several run.note m (g.met.S.System.sound run.system h) may unsettled held)) in record {
      known = λ h. (holds h).known;
      safe = λ h. (holds h).safe;
      noted = λ h. (holds h).noted;
    }

pub returns-in_err-blame : goal.returns-in_err-blame
returns-in_err-blame g c h =
    let model = g.S.System.model in
    let run = c.args.self.now in
    let m = model.machine run.system in
    let none = next-none m ((run.known h).apart c.in_ok-may_change.ensures) (c.requires h) in
    Goes-failed model CreateNext disk.CreateNext run.several run.system c.from_residual-in_err-blame.result c.create_next.new.self
    c.from_residual-in_err-blame.ensures.0
    (blamed-err c.create_next.result _ _ _ _ c.in_err-blame.ensures (c.create_next.ensures.change h)) (c.create_next.ensures.time h)
    (create-part run.several m (g.met.S.System.sound run.system h) none (run.safe h))

pub returns : goal.returns
returns g c h =
    let model = g.S.System.model in
    let run = c.args.self.now in
    let m = model.machine run.system in
    let none = next-none m ((run.known h).apart c.in_ok-may_change.ensures) (c.requires h) in
    let done = blamed-ok c.create_next.result _ _ (λ _. model.machine c.create_next.new.self ≡ after CreateNext m) _
    c.in_ok-blame.ensures (c.create_next.ensures.change h) in
    Goes-done model CreateNext disk.CreateNext run.several run.several run.system _ c.create_next.new.self refl done
    (c.create_next.ensures.time h) (create-step run.several m (g.met.S.System.sound run.system h) none (run.safe h))
