use Rattle.std.proofs.Common.{◌≡◌, arith, refl, ap, sym, subst}
use Rattle.conf_disk.specs.{Image.IsImage, Moments.{Elapses, CountsFailures}, declared.disk.DiskFault.TheVariants.Device}
use Rattle.{conf_system.specs.{Folders.folder_of, Models.Passes}, conf_protocol.specs.Moments.{Goes, LeftSince, MayEnd}}
use Rattle.conf_protocol.proofs.{Moving.{Elapses-of, Changes-quiet, Quiet-none}, Shown.{performs, performs-none, counts-spent, is-device}}
use Rattle.conf_protocol.proofs.{Shown.{never-memory, ends-always}, disk.SystemDiskDisk.append.Goals.{in-Store, in-Next}}
use Rattle.conf_disk.specs.Folder as disk
use Rattle.conf_protocol.proofs.disk.SystemDiskDisk.append.Goals as goal

pub returns-clause-goes : goal.returns-clause-goes
returns-clause-goes g c =
    let model = g.S.System.model in
    let run = c.args.self.now.run in
    let old = run.system in
    let mid = c.match-name.self.run.system in
    let step = disk.Append c.args.name c.args.bytes.now in
    let same = ap (λ run. run.system) c.count.ensures.same in
    let count : c.match-name.self.failures ≡ c.args.self.now.failures = elim c.match-name.branch [
      | in-Store w ↦ ap (λ self. self.failures) w.self-is
      | in-Next w ↦ ap (λ self. self.failures) w.self-is
    ] in
    let goes = λ (h : model.honest). (
    let all : Goes model step run.several old c.match-name.done c.match-name.self.run.several mid = elim c.match-name.branch [
      | in-Store w ↦ subst (λ done. Goes model step run.several old done c.match-name.self.run.several mid) (sym w.done-is)
          (subst (λ run. Goes model step c.args.self.now.run.several old w.append_store-done.result run.several run.system)
          (sym (ap (λ self. self.run) w.self-is))
          (subst (λ name. Goes model (disk.Append name
          c.args.bytes.now) run.several old w.append_store-done.result w.append_store-done.new.self.several
          w.append_store-done.new.self.system) (sym w.in-Store.is) (w.append_store-done.ensures h)))
      | in-Next w ↦ subst (λ done. Goes model step run.several old done c.match-name.self.run.several mid) (sym w.done-is)
          (subst (λ run. Goes model step c.args.self.now.run.several old w.append_next-done.result run.several run.system)
          (sym (ap (λ self. self.run) w.self-is))
          (subst (λ name. Goes model (disk.Append name
          c.args.bytes.now) run.several old w.append_next-done.result w.append_next-done.new.self.several
          w.append_next-done.new.self.system) (sym w.in-Next.is) (w.append_next-done.ensures h)))
    ] in all) in record {
      change = λ h. subst (λ s. disk.Performs step (folder_of (model.machine old)) (folder_of (model.machine s)) c.count.result) (sym same)
          (performs step (folder_of (model.machine old)) (folder_of (model.machine mid)) c.match-name.done c.count.result Device
          c.count.ensures.told (goes h).change);
      spent = λ h is. absurd (omega (arith, is, c.in_ok-may_fail.ensures.counted));
      time = λ h. subst (λ s. Elapses (model.moment old) (model.moment s) (LeftSince model old) (LeftSince model s)
          (IsImage (folder_of (model.machine s)))) (sym same)
          (Elapses-of model old mid (λ t. g.met.S.System.holds_now old t h) (goes h).moments);
      failures = subst (λ n. CountsFailures n c.count.new.self.failures c.count.result) count c.count.ensures.failures;
      fault = c.count.ensures.fault;
    }

pub returns-clause-also : goal.returns-clause-also
returns-clause-also g c h =
    let model = g.S.System.model in
    let run = c.args.self.now.run in
    let old = run.system in
    let mid = c.match-name.self.run.system in
    let step = disk.Append c.args.name c.args.bytes.now in
    let same = ap (λ run. run.system) c.count.ensures.same in
    let all : Goes model step run.several old c.match-name.done c.match-name.self.run.several mid = elim c.match-name.branch [
      | in-Store w ↦ subst (λ done. Goes model step run.several old done c.match-name.self.run.several mid) (sym w.done-is)
          (subst (λ run. Goes model step c.args.self.now.run.several old w.append_store-done.result run.several run.system)
          (sym (ap (λ self. self.run) w.self-is))
          (subst (λ name. Goes model (disk.Append name
          c.args.bytes.now) run.several old w.append_store-done.result w.append_store-done.new.self.several
          w.append_store-done.new.self.system) (sym w.in-Store.is) (w.append_store-done.ensures h)))
      | in-Next w ↦ subst (λ done. Goes model step run.several old done c.match-name.self.run.several mid) (sym w.done-is)
          (subst (λ run. Goes model step c.args.self.now.run.several old w.append_next-done.result run.several run.system)
          (sym (ap (λ self. self.run) w.self-is))
          (subst (λ name. Goes model (disk.Append name
          c.args.bytes.now) run.several old w.append_next-done.result w.append_next-done.new.self.several
          w.append_next-done.new.self.system) (sym w.in-Next.is) (w.append_next-done.ensures h)))
    ] in
    subst (λ s. Passes model old s (MayEnd (model.machine old))) (sym same) (ends-always model old mid all.moments)

pub returns-in_err-may_fail-clause-goes : goal.returns-in_err-may_fail-clause-goes
returns-in_err-may_fail-clause-goes g c =
    let model = g.S.System.model in
    let old = c.args.self.now.run.system in
    let told = c.in_err-may_fail.ensures.spent in
    let device = is-device c.from_residual.result c.in_err-may_fail.field-0.0 c.from_residual.ensures.1 told.0 in record {
      change = λ h. performs-none (disk.Append c.args.name c.args.bytes.now) (folder_of (model.machine old)) c.from_residual.result
          c.from_residual.ensures.0;
      spent = λ h is. refl;
      time = λ h. Elapses-of model old old (λ t. g.met.S.System.holds_now old t h) (Changes-quiet model old old (Quiet-none model old));
      failures = counts-spent c.args.self.now.failures c.from_residual.result told.1 device;
      fault = never-memory c.from_residual.result device;
    }
