use Rattle.std.{specs.Prelude.Ok, proofs.Common.{Bool, sym, ◌∙◌, ap, subst}}
use Rattle.{conf_system.specs.declared.system.Note.Note, conf_protocol.specs.{Keeps.Knows, Moments.Goes, declared.run.Bytes.Bytes}}
use Rattle.conf_protocol.{specs.declared.run.Names.TheVariants.Broken, proofs.{Keeping.holds-kept, Going.{Goes-then, Goes-unchanged}}}
use Rattle.conf_disk.specs.Folder as disk
use Rattle.conf_disk.specs.declared.disk.Name.TheVariants as disk_name
use Rattle.conf_protocol.proofs.run.Run.sync_by_copy.Goals as goal

pub invariant_of-self : goal.invariant_of-self
invariant_of-self g c =
    let model = g.S.System.model in
    let run = c.have_noted.new.self in
    let m = model.machine run.system in
    let new = model.machine c.put_copy.new.system in
    let holds = λ (h : model.honest). holds-kept run.store run.next run.names run.several run.note m new (c.put_copy.ensures.kept h)
    (ap (λ (n : Note). n.on_device) (c.in_ok-have_noted.ensures.noted h))
    (record { known = run.known h; safe = run.safe h; noted = run.noted h }) in record {
      known = λ h. subst (λ (store : Bytes). Knows store run.next Broken run.several new)
          (sym (c.have_noted.ensures.same.0 ∙ c.requires.unsure)) (holds h).known;
      safe = λ h. (holds h).safe;
      noted = λ h. (holds h).noted;
    }

pub returns-in_err-put_copy : goal.returns-in_err-put_copy
returns-in_err-put_copy g c h =
    let model = g.S.System.model in
    let step = disk.Sync disk_name.Store in
    let run = c.args.self.now in
    let mid = c.have_noted.new.self in
    let same = c.have_noted.ensures.same.3 in
    subst (λ (is : Bool). Goes model step run.several run.system c.from_residual-in_err-put_copy.result is c.put_copy.new.system) (sym same)
    (Goes-then model step run.several run.several run.system mid.system c.from_residual-in_err-put_copy.result c.put_copy.new.system
    (c.have_noted.ensures.quiet h)
    (Goes-unchanged model step run.several mid.system c.from_residual-in_err-put_copy.result c.put_copy.new.system
    c.from_residual-in_err-put_copy.ensures.0 (c.in_err-put_copy.ensures.failed h) (c.put_copy.ensures.moments h)))

pub returns : goal.returns
returns g c h =
    let model = g.S.System.model in
    let step = disk.Sync disk_name.Store in
    let run = c.args.self.now in
    let mid = c.have_noted.new.self in
    let same = c.have_noted.ensures.same.3 in
    let placed = c.in_ok-put_copy.ensures.placed h in
    let kept = c.put_copy.ensures.kept h in
    subst (λ (is : Bool). Goes model step run.several run.system (Ok tt) is c.put_copy.new.system) (sym same)
    (Goes-then model step run.several run.several run.system mid.system (Ok tt) c.put_copy.new.system (c.have_noted.ensures.quiet h)
    (record {
      change = placed.folder;
      moments = c.put_copy.ensures.moments h;
      exact = λ is. (λ i. kept.noted i (kept.now i).store) ∙ is;
    }))
