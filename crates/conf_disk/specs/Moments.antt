-- What the calls of a disk do to the moments at which it may crash, and to the number of its failures.
use Rattle.std.specs.Prelude.{◌≡◌, ◌≢◌, ◌⊎◌, ℕ, ◌≤◌, ◌<◌, Result, Err, IsErrOf, OnOk}
use Rattle.conf_disk.specs.{Folder.{Step, Performs}, Image.{Image, IsImage}, Models.DiskModel, declared.disk.DiskFault.DiskFault}
use Rattle.conf_disk.specs.declared.disk.{DiskFault.TheVariants.{Device, OutOfMemory}, Content.Content, Name.Name}

-- the greatest number of failures that is counted
abbrev pub greatest : ℕ
greatest = 18446744073709551615

-- Time goes on: a crash since t may leave what it could leave before the call, or what it may leave now.
pub record Elapses (before now : ℕ) (past since : ℕ → Image → Type 0) (may_leave : Image → Type 0) : Type 0 where
  pub later : before ≤ now
  pub nothing_else : (t : ℕ) (image : Image) → t ≤ before → since t image → past t image ⊎ may_leave image
  pub keeps : (t : ℕ) (image : Image) → t ≤ before → past t image → since t image

-- time goes on from one value of a disk to the next
abbrev pub TimeGoesOn : {D : Type 0} → DiskModel D → D → D → Type 0
TimeGoesOn model old new =
    Elapses (model.moment old) (model.moment new) (model.left old) (model.left new) (IsImage (model.folder new))

-- A device's failures are counted, up to the greatest number. From then on every call fails. A call that returns Ok
-- leaves the number as it was.
pub record CountsFailures {T : Type 0} (before now : ℕ) (result : Result T DiskFault) : Type 0 where
  pub never_falls : before ≤ now
  pub within : now ≤ greatest
  pub steady : OnOk result (now ≡ before)
  pub device : IsErrOf result Device → (before < now) ⊎ (before ≡ greatest)
  pub spent : before ≡ greatest → IsErrOf result Device

-- How a call that changes something goes, whatever it returns: what it makes of the folder, which is nothing once the
-- failures are at their greatest number; what a crash during it may leave; and when it fails. It never runs out of
-- memory.
pub record IsChange {D : Type 0} (model : DiskModel D)
    (step : Step) (old : D) (result : Result (Unit {0}) DiskFault) (new : D) : Type 0 where
  pub change : model.honest → Performs step (model.folder old) (model.folder new) result
  pub spent : model.honest → model.failure_count old ≡ greatest → model.folder new ≡ model.folder old
  pub time : model.honest → TimeGoesOn model old new
  pub failures : CountsFailures (model.failure_count old) (model.failure_count new) result
  pub fault : result ≢ Err OutOfMemory

-- What a disk may promise of a call that changes something: of the disk before it, the step, what it returned, and the
-- disk after it.
abbrev pub SaysOfChange : Type 0 → Type 1
SaysOfChange D = D → Step → Result (Unit {0}) DiskFault → D → Type 0

-- what a disk may promise of a read of a name with a limit
abbrev pub SaysOfRead : Type 0 → Type 1
SaysOfRead D = D → Name → ℕ → Result Content DiskFault → D → Type 0

-- A crash at any moment from `old` to `new` leaves an image of which P holds.
pub record LeavesOnly {D : Type 0} (model : DiskModel D) (old new : D)
    (P : Image → Type 0) : Type 0 where
  pub later : model.moment old ≤ model.moment new
  pub each : (image : Image) → model.left new (model.moment old) image → P image
  -- since an earlier moment: what was left up to `old`, or an image of which P holds
  pub before : (t : ℕ) (image : Image) → t ≤ model.moment old → model.left new t image
      → model.left old t image ⊎ P image
