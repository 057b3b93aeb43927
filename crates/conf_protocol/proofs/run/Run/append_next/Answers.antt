use Rattle.std.{specs.Prelude.{Ok, Err}, proofs.{Common.{ℕ, List, take, refl, sym, ◌∙◌, ap, subst}, Math.Seq.take-length}}
use Rattle.conf_system.specs.{declared.system.FileName.TheVariants.Next, Machine.{Write, after, is_any}}
use Rattle.conf_protocol.{specs.{Keeps.bytes_after, declared.run.Bytes.{Bytes, TheVariants.Unsure}}, proofs.Keeping.Holds}
use Rattle.conf_protocol.proofs.{Keeping.{holds-next_longer, holds-wrote_next}, Appends.{Goes-wrote, Goes-wrote_part, next-appends}}
use Rattle.conf_protocol.proofs.Appends.{next-exact}
use Rattle.conf_disk.specs.declared.disk.Name.TheVariants as disk_name
use Rattle.conf_protocol.proofs.run.Run.append_next.Goals as goal

pub invariant_of-self : goal.invariant_of-self
invariant_of-self g c =
    let model = g.S.System.model in
    let run = c.args.self.now in
    let m = model.machine run.system in
    let holds = λ (h : model.honest). (
    let wrote = c.in-Err.ensures h in
    subst (Holds run.store Unsure run.names run.several run.note) (sym wrote.1.change)
    (holds-wrote_next run.store run.next Unsure run.names run.several run.note m (take wrote.0 c.args.bytes.now)
    (g.met.S.System.sound run.system h) c.in_ok-may_change.ensures
    (record { known = run.known h; safe = run.safe h; noted = run.noted h }) refl)) in record {
      known = λ h. (holds h).known;
      safe = λ h. (holds h).safe;
      noted = λ h. (holds h).noted;
    }

pub invariant_of-self-2 : goal.invariant_of-self-2
invariant_of-self-2 g c =
    let model = g.S.System.model in
    let run = c.args.self.now in
    let m = model.machine run.system in
    let bytes = c.args.bytes.now in
    let holds = λ (h : model.honest). (
    let wrote = c.in_default.ensures h in
    subst (λ (next : Bytes). Holds run.store next run.names run.several run.note (model.machine c.write_all.new.system))
    (sym c.longer-after.ensures)
    (subst (Holds run.store (bytes_after (is_any bytes) run.next) run.names run.several run.note)
    (sym (wrote.change ∙ ap (λ (l : List ℕ). after (Write Next l) m) (take-length bytes)))
    (holds-next_longer run.store run.next run.names run.several run.note m bytes
    (g.met.S.System.sound run.system h) c.in_ok-may_change.ensures
    (record { known = run.known h; safe = run.safe h; noted = run.noted h })))) in record {
      known = λ h. (holds h).known;
      safe = λ h. (holds h).safe;
      noted = λ h. (holds h).noted;
    }

pub returns-in-Err : goal.returns-in-Err
returns-in-Err g c h =
    let model = g.S.System.model in
    let run = c.args.self.now in
    let m = model.machine run.system in
    let wrote = c.in-Err.ensures h in
    Goes-wrote_part model Next disk_name.Next c.args.bytes.now run.several run.several run.system (Err c.refusal.result)
    c.write_all.new.system wrote.0 refl (next-appends m ((run.known h).apart c.in_ok-may_change.ensures) (run.safe h)) wrote.1
    (next-exact run.several m)

pub returns : goal.returns
returns g c h =
    let model = g.S.System.model in
    let run = c.args.self.now in
    let m = model.machine run.system in
    Goes-wrote model Next disk_name.Next c.args.bytes.now run.several run.several run.system (Ok tt)
    c.write_all.new.system refl (next-appends m ((run.known h).apart c.in_ok-may_change.ensures) (run.safe h)) (c.in_default.ensures h)
    (next-exact run.several m)
