use Rattle.std.proofs.Common.{arith, refl, ap, sym, subst}
use Rattle.conf_disk.specs.{Image.IsImage, Moments.Elapses, declared.disk.DiskFault.TheVariants.Device}
use Rattle.{conf_system.specs.{Folders.folder_of, Models.Passes}, conf_protocol.specs.Moments.{LeftSince, MayEnd}}
use Rattle.conf_protocol.proofs.{Moving.{Elapses-of, Changes-quiet, Quiet-none}, Shown.{performs, performs-none, counts-spent, is-device}}
use Rattle.conf_protocol.proofs.Shown.{never-memory, ends-always}
use Rattle.conf_disk.specs.Folder as disk
use Rattle.conf_protocol.proofs.disk.SystemDiskDisk.create_next.Goals as goal

pub returns-clause-goes : goal.returns-clause-goes
returns-clause-goes g c =
    let model = g.S.System.model in
    let old = c.args.self.now.run.system in
    let mid = c.create_next-done.new.self.system in
    let same = ap (λ run. run.system) c.count.ensures.same in record {
      change = λ h. subst (λ s. disk.Performs disk.CreateNext (folder_of (model.machine old)) (folder_of (model.machine s))
          c.count.result) (sym same)
          (performs disk.CreateNext (folder_of (model.machine old)) (folder_of (model.machine mid)) c.create_next-done.result
          c.count.result Device
          c.count.ensures.told (c.create_next-done.ensures h).change);
      spent = λ h is. absurd (omega (arith, is, c.in_ok-may_fail.ensures.counted));
      time = λ h. subst (λ s. Elapses (model.moment old) (model.moment s) (LeftSince model old) (LeftSince model s)
          (IsImage (folder_of (model.machine s)))) (sym same)
          (Elapses-of model old mid (λ t. g.met.S.System.holds_now old t h) (c.create_next-done.ensures h).moments);
      failures = c.count.ensures.failures;
      fault = c.count.ensures.fault;
    }

pub returns-clause-also : goal.returns-clause-also
returns-clause-also g c h =
    let model = g.S.System.model in
    let old = c.args.self.now.run.system in
    let mid = c.create_next-done.new.self.system in
    let same = ap (λ run. run.system) c.count.ensures.same in
    subst (λ s. Passes model old s (MayEnd (model.machine old))) (sym same)
    (ends-always model old mid (c.create_next-done.ensures h).moments)

pub returns-in_err-may_fail-clause-goes : goal.returns-in_err-may_fail-clause-goes
returns-in_err-may_fail-clause-goes g c =
    let model = g.S.System.model in
    let old = c.args.self.now.run.system in
    let told = c.in_err-may_fail.ensures.spent in
    let device = is-device c.from_residual.result c.in_err-may_fail.field-0.0 c.from_residual.ensures.1 told.0 in record {
      change = λ h. performs-none disk.CreateNext (folder_of (model.machine old)) c.from_residual.result c.from_residual.ensures.0;
      spent = λ h is. refl;
      time = λ h. Elapses-of model old old (λ t. g.met.S.System.holds_now old t h) (Changes-quiet model old old (Quiet-none model old));
      failures = counts-spent c.args.self.now.failures c.from_residual.result told.1 device;
      fault = never-memory c.from_residual.result device;
    }
