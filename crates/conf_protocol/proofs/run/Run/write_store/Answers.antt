use Rattle.std.{specs.Prelude.{Ok, Err}, proofs.{Common.{ℕ, List, Bool, take, refl, sym, ◌∙◌, ap, subst}, Math.Seq.take-length}}
use Rattle.{conf_system.specs.{declared.system.FileName.TheVariants.Store, Machine.{Write, after}}, conf_protocol.specs.Keeps.several_after}
use Rattle.conf_protocol.{specs.{Moments.Goes, declared.run.Bytes.TheVariants.{Pending, Unsure}}, proofs.Keeping.{Holds, holds-store_part}}
use Rattle.conf_protocol.proofs.{Keeping.holds-store_longer, Appends.{Goes-wrote, Goes-wrote_part, store-appends, store-exact}}
use Rattle.conf_disk.specs.Folder as disk
use Rattle.conf_disk.specs.declared.disk.Name.TheVariants as disk_name
use Rattle.conf_protocol.proofs.run.Run.write_store.Goals as goal

pub invariant_of-self : goal.invariant_of-self
invariant_of-self g c =
    let model = g.S.System.model in
    let run = c.args.self.now in
    let m = model.machine run.system in
    let holds = λ (h : model.honest). (
    let wrote = c.in-Err.ensures h in
    subst (λ (several : Bool). Holds Unsure run.next run.names several run.note (model.machine c.write_all.new.system))
    (sym c.several_after-self.ensures)
    (subst (Holds Unsure run.next run.names (several_after run.store run.several) run.note) (sym wrote.1.change)
    (holds-store_part run.store run.next run.names run.several run.note m (take wrote.0 c.args.bytes.now)
    (g.met.S.System.sound run.system h) c.requires.may c.requires.sure (c.requires.told h) (c.requires.off h)
    (record { known = run.known h; safe = run.safe h; noted = run.noted h })))) in record {
      known = λ h. (holds h).known;
      safe = λ h. (holds h).safe;
      noted = λ h. (holds h).noted;
    }

pub invariant_of-self-2 : goal.invariant_of-self-2
invariant_of-self-2 g c =
    let model = g.S.System.model in
    let run = c.args.self.now in
    let m = model.machine run.system in
    let bytes = c.args.bytes.now in
    let holds = λ (h : model.honest). (
    let wrote = c.in_default.ensures h in
    subst (λ (several : Bool). Holds Pending run.next run.names several run.note (model.machine c.write_all.new.system))
    (sym c.several_after-self.ensures)
    (subst (Holds Pending run.next run.names (several_after run.store run.several) run.note)
    (sym (wrote.change ∙ ap (λ (l : List ℕ). after (Write Store l) m) (take-length bytes)))
    (holds-store_longer run.store run.next run.names run.several run.note m bytes
    (g.met.S.System.sound run.system h) c.requires.may c.requires.sure (c.requires.told h) (c.requires.off h) c.requires.some
    (record { known = run.known h; safe = run.safe h; noted = run.noted h })))) in record {
      known = λ h. (holds h).known;
      safe = λ h. (holds h).safe;
      noted = λ h. (holds h).noted;
    }

pub returns-in-Err : goal.returns-in-Err
returns-in-Err g c h =
    let model = g.S.System.model in
    let run = c.args.self.now in
    let m = model.machine run.system in
    let known = run.known h in
    let plain = known.plain c.requires.may in
    let wrote = c.in-Err.ensures h in
    subst (λ (is : Bool). Goes model (disk.Append disk_name.Store c.args.bytes.now) run.several run.system (Err c.refusal.result) is
    c.write_all.new.system) (sym c.several_after-self.ensures)
    (Goes-wrote_part model Store disk_name.Store c.args.bytes.now run.several (several_after run.store run.several) run.system
    (Err c.refusal.result) c.write_all.new.system wrote.0 refl
    (store-appends run.store m plain c.requires.sure known.store_so (c.requires.told h) (c.requires.off h)) wrote.1
    (λ x. store-exact run.store run.several m x plain c.requires.sure known.store_so (c.requires.told h)))

pub returns : goal.returns
returns g c h =
    let model = g.S.System.model in
    let run = c.args.self.now in
    let m = model.machine run.system in
    let known = run.known h in
    let plain = known.plain c.requires.may in
    subst (λ (is : Bool). Goes model (disk.Append disk_name.Store c.args.bytes.now) run.several run.system (Ok tt) is
    c.write_all.new.system) (sym c.several_after-self.ensures)
    (Goes-wrote model Store disk_name.Store c.args.bytes.now run.several (several_after run.store run.several) run.system
    (Ok tt) c.write_all.new.system refl
    (store-appends run.store m plain c.requires.sure known.store_so (c.requires.told h) (c.requires.off h)) (c.in_default.ensures h)
    (λ x. store-exact run.store run.several m x plain c.requires.sure known.store_so (c.requires.told h)))
