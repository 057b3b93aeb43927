-- How a procedure of several calls fails: as one call of the disk does.
use Rattle.std.specs.Prelude.{◌≡◌, ◌≢◌, Result, Err}
use Rattle.{conf_journal.specs.Prelude.{DiskModel, CountsFailures, greatest}, conf_disk.specs.declared.disk.DiskFault.DiskFault}
use Rattle.conf_disk.specs.declared.disk.DiskFault.TheVariants.{OutOfMemory}

-- Failures of the device are counted, and no procedure runs out of memory. A disk that has failed the greatest number
-- of times changes nothing.
pub record FailsAsCalls {D : Type 0} (model : DiskModel D)
    (old : D) (result : Result (Unit {0}) DiskFault) (new : D) : Type 0 where
  pub spent : model.honest → model.failure_count old ≡ greatest → model.folder new ≡ model.folder old
  pub failures : CountsFailures (model.failure_count old) (model.failure_count new) result
  pub fault : result ≢ Err OutOfMemory
