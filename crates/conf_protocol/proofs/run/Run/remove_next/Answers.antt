use Rattle.std.{proofs.Common.{◌≡◌, ℕ, length, Option, refl, rules}, specs.Prelude.{option_map, IsSome}}
use Rattle.{conf_system.specs.Machine.{UnlinkNext, after, version_at, version_bytes}, conf_protocol.proofs.Shown.{call-either, blamed-ok}}
use Rattle.conf_protocol.proofs.{Shown.blamed-err, Known.knows-less_next, Keeping.{Holds, other_names, holds-unlinked}, Calls.remove-step}
use Rattle.conf_protocol.{proofs.{Calls.{remove-part, looked}, Going.{Goes-done, Goes-failed}}, specs.declared.run.Bytes.TheVariants.Unsure}
use Rattle.conf_disk.specs.Folder as disk
use Rattle.conf_protocol.proofs.run.Run.remove_next.Goals as goal

pub returns-in_err-blame-2 : goal.returns-in_err-blame-2
returns-in_err-blame-2 g c h =
    let model = g.S.System.model in
    let run = c.args.self.now in
    let m = model.machine run.system in
    let found = blamed-ok c.look.result c.in_ok-blame.field-0 _
    (λ (o : Option ℕ). o ≡ option_map length (option_map version_bytes (version_at m.files m.now.next))) _
    c.in_ok-blame.ensures (c.look.ensures h) in
    let is : IsSome c.in_ok-blame.field-0 = search rules in
    let some : IsSome m.now.next = looked m.files m.now.next c.in_ok-blame.field-0 found is in
    Goes-failed model UnlinkNext disk.RemoveNext run.several run.system c.from_residual-in_err-blame-2.result c.unlink_next.new.self
    c.from_residual-in_err-blame-2.ensures.0
    (blamed-err c.unlink_next.result _ _ _ _ c.in_err-blame-2.ensures (c.unlink_next.ensures.change h)) (c.unlink_next.ensures.time h)
    (remove-part run.several m (some, (run.known h).apart c.in_ok-may_change.ensures) (run.safe h))

pub returns-in_ok-blame-2 : goal.returns-in_ok-blame-2
returns-in_ok-blame-2 g c h =
    let model = g.S.System.model in
    let run = c.args.self.now in
    let m = model.machine run.system in
    let found = blamed-ok c.look.result c.in_ok-blame.field-0 _
    (λ (o : Option ℕ). o ≡ option_map length (option_map version_bytes (version_at m.files m.now.next))) _
    c.in_ok-blame.ensures (c.look.ensures h) in
    let is : IsSome c.in_ok-blame.field-0 = search rules in
    let some : IsSome m.now.next = looked m.files m.now.next c.in_ok-blame.field-0 found is in
    let done = blamed-ok c.unlink_next.result _ _ (λ _. model.machine c.unlink_next.new.self ≡ after UnlinkNext m) _
    c.in_ok-blame-2.ensures (c.unlink_next.ensures.change h) in
    Goes-done model UnlinkNext disk.RemoveNext run.several run.several run.system _ c.unlink_next.new.self refl done
    (c.unlink_next.ensures.time h) (remove-step run.several m (some, (run.known h).apart c.in_ok-may_change.ensures) (run.safe h))

pub invariant_of-self : goal.invariant_of-self
invariant_of-self g c =
    let run = c.args.self.now in
    record {
      known = λ h. knows-less_next run.store run.next run.names run.several (g.S.System.model.machine run.system) (run.known h);
      safe = run.safe;
      noted = run.noted;
    }

pub invariant_of-self-then-is_some : goal.invariant_of-self-then-is_some
invariant_of-self-then-is_some g c =
    let model = g.S.System.model in
    let run = c.args.self.now in
    let names = c.changed-self.result in
    let m = model.machine run.system in
    let new = model.machine c.unlink_next.new.self in
    let holds = λ (h : model.honest). (
    let held = other_names run.store run.next run.names names run.several run.note m c.changed-self.ensures.kept
    c.changed-self.ensures.may c.changed-self.ensures.unsettled
    (record { known = run.known h; safe = run.safe h; noted = run.noted h }) in
    call-either UnlinkNext m new c.unlink_next.result (Holds run.store Unsure names run.several run.note)
    (c.unlink_next.ensures.change h)
    (holds-unlinked run.store run.next names run.several run.note m c.changed-self.ensures.unsettled held 1)
    (holds-unlinked run.store run.next names run.several run.note m c.changed-self.ensures.unsettled held)) in record {
      known = λ h. (holds h).known;
      safe = λ h. (holds h).safe;
      noted = λ h. (holds h).noted;
    }
