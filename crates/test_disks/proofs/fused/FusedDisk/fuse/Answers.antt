use Rattle.std.proofs.Common.{rules}
use Rattle.{test_disks.specs.Fused.call_step, conf_disk.proofs.Images.Performs-failed}
use Rattle.test_disks.proofs.fused.FusedDisk.fuse.Goals as goal

-- the call of the disk below had its effect, or a part of it
pub returns-in-FailsDone-clause-goes : goal.returns-in-FailsDone-clause-goes
returns-in-FailsDone-clause-goes g c = record {
  change = λ h.
      (let folder = g.D.Disk.model.folder in
      let made = c.make-in-FailsDone in
      let part = Performs-failed (call_step c.args.call) (folder c.next_outcome.new.self.inner)
      (folder made.new.disk) made.result (made.ensures.goes.change h) in
      rw (← c.next_outcome.ensures.inner) part);
  spent = search rules;
  time = search rules;
  failures = search rules;
  fault = search rules;
}
