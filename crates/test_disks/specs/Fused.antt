-- A disk with a fuse: which calls pass to the disk below, and what becomes of the others.
use Rattle.std.specs.Prelude.{◌≡◌, ◌≢◌, ℕ, ◌+◌, ◌-◌, min, Result, Err, ◌==◌, nat_lt, if◌then◌else◌}
use Rattle.conf_disk.specs.{Folder.{Step, CreateNext, Append, Sync, RenameNext, RemoveNext, SyncFolder, Performs}, Models.DiskModel}
use Rattle.conf_disk.specs.{Moments.{CountsFailures, greatest}, declared.disk.{Name.Name, Content.Content, DiskFault.DiskFault}}
use Rattle.{conf_disk.specs.declared.disk.DiskFault.TheVariants.{Device, OutOfMemory}, test_disks.specs.declared.fused.Fuse.Fuse}
use Rattle.test_disks.specs.declared.fused.{Fuse.TheVariants.{Stop, FailOnce}, FusedDisk.FusedDisk, FuseCounter.FuseCounter, Call.Call}
use Rattle.test_disks.specs.declared.fused.Outcome.{Outcome, TheVariants.{Passes, Fails, FailsDone}}
use Rattle.test_disks.specs.declared.fused.Call.TheVariants as call

-- what a call does
abbrev pub call_step : Call → Step
call_step call.CreateNext = CreateNext
call_step (call.Append name bytes) = Append name bytes.now
call_step (call.Sync name) = Sync name
call_step call.RenameNext = RenameNext
call_step call.RemoveNext = RemoveNext
call_step call.SyncFolder = SyncFolder

-- The number of calls that pass before the fuse decides, and the fuse, which both never change; and the number of the
-- next call. Calls are numbered from 0, so it is also the number of calls that were made.
pub record FuseState : Type 0 where
  pub calls : ℕ
  pub fuse : Fuse
  pub number : ℕ

-- What becomes of the call with a number. Calls with a number below `calls` pass. With `Stop` every other one fails.
-- With `FailOnce` the call with the number `calls` fails, with its effect where `done`, and all others pass.
abbrev pub outcome_of_number : Fuse → ℕ → ℕ → Outcome
outcome_of_number Stop calls number = if nat_lt number calls then Passes else Fails
outcome_of_number (FailOnce done) calls number = if number == calls then (if done then FailsDone else Fails) else Passes

-- how many of the calls with a smaller number fail
abbrev pub failed_below : Fuse → ℕ → ℕ → ℕ
failed_below Stop calls number = number - calls
failed_below (FailOnce done) calls number = if nat_lt calls number then 1 else 0

-- how many calls the fuse failed
abbrev pub failed_calls : FuseState → ℕ
failed_calls state = failed_below state.fuse state.calls state.number

-- how many calls passed, up to the greatest number of 64 bits
abbrev pub passed_calls : FuseState → ℕ
passed_calls state = min (state.number - failed_calls state) greatest

-- what becomes of the next call: on a disk that has failed the greatest number of times every call fails
abbrev pub outcome_of : ℕ → FuseState → Outcome
outcome_of failures state =
    if failures == greatest then Fails else outcome_of_number state.fuse state.calls state.number

-- The greatest number of 128 bits, at which the number of the call stays. With `Stop` the disk has failed the greatest
-- number of times long before, and with `FailOnce` every call from there on passes, whatever its number.
abbrev pub greatest_number : ℕ
greatest_number = 340282366920938463463374607431768211455

-- the call is counted
abbrev pub counted : FuseState → FuseState
counted state = record state { number = min (state.number + 1) greatest_number }

-- a disk that has failed the greatest number of times counts no call
abbrev pub state_after : ℕ → FuseState → FuseState
state_after failures state = if failures == greatest then state else counted state

-- how many calls the fuse failed, after one more with this outcome
abbrev pub failed_after : Outcome → ℕ → ℕ
failed_after Passes failed = failed
failed_after Fails failed = failed + 1
failed_after FailsDone failed = failed + 1

-- what the trait's clauses say of a call of the disk below that changes something
pub record IsCall {D : Type 0} (model : DiskModel D)
    (also_changes : D → Step → Result (Unit {0}) DiskFault → D → Type 0)
    (old : D) (step : Step) (result : Result (Unit {0}) DiskFault) (new : D) : Type 0 where
  pub change : model.honest → Performs step (model.folder old) (model.folder new) result
  pub failures : CountsFailures (model.failure_count old) (model.failure_count new) result
  pub fault : result ≢ Err OutOfMemory
  pub also : also_changes old step result new

-- A call that passes is made on the disk below. One that fails returns Device; the disk below is as it was, or the call
-- was made on it.
abbrev pub Goes : {T : Type 0} → Outcome → (Result T DiskFault → Type 0) → Type 0 → Result T DiskFault → Type 0
Goes Passes Calls Unchanged result = Calls result
Goes Fails Calls Unchanged result = (result ≡ Err Device) × Unchanged
Goes {T = T} FailsDone Calls Unchanged result = (result ≡ Err Device) × ((answer : Result T DiskFault) × Calls answer)

-- the disk below
abbrev pub fused_inner : {D : Type 0} → FusedDisk D → D
fused_inner disk = disk.inner

-- the state of a fuse, from the code's counter
abbrev pub counter_state : FuseCounter → FuseState
counter_state counter = record { calls = counter.calls; fuse = counter.fuse; number = counter.number }

-- the state of a disk's fuse
abbrev pub fuse_of : {D : Type 0} → FusedDisk D → FuseState
fuse_of disk = counter_state disk.counter

-- how many calls passed to the disk below, up to the greatest number
abbrev pub passed_count : {D : Type 0} → FusedDisk D → ℕ
passed_count disk = passed_calls (fuse_of disk)

-- the failures of the disk below and the fuse's own, up to the greatest number
abbrev pub fused_failures : {D : Type 0} → (D → ℕ) → FusedDisk D → ℕ
fused_failures failure_count disk = min (failure_count disk.inner + failed_calls (fuse_of disk)) greatest

-- the disk below as contracts see it through the fuse
abbrev pub fused_model : {D : Type 0} → DiskModel D → DiskModel (FusedDisk D)
fused_model model = record {
  honest = model.honest;
  folder = λ disk. model.folder disk.inner;
  moment = λ disk. model.moment disk.inner;
  left = λ disk. model.left disk.inner;
  failure_count = fused_failures model.failure_count;
}

-- what becomes of a call that changes something
pub record FusesChange {D : Type 0} (model : DiskModel D)
    (also_changes : D → Step → Result (Unit {0}) DiskFault → D → Type 0)
    (old : FusedDisk D) (step : Step) (result : Result (Unit {0}) DiskFault) (new : FusedDisk D) : Type 0 where
  pub fuse : fuse_of new ≡ state_after (fused_failures model.failure_count old) (fuse_of old)
  pub outcome : Goes (outcome_of (fused_failures model.failure_count old) (fuse_of old))
      (λ answer. IsCall model also_changes (fused_inner old) step answer (fused_inner new))
      (fused_inner new ≡ fused_inner old) result

-- a read has no effect, so one that fails after its effect is one that fails
abbrev pub without_effect : Outcome → Outcome
without_effect Passes = Passes
without_effect Fails = Fails
without_effect FailsDone = Fails

-- what becomes of a read: if it doesn't pass, the disk below is not read
pub record FusesRead {D : Type 0} (failure_count : D → ℕ)
    (also_reads : D → Name → ℕ → Result Content DiskFault → D → Type 0)
    (old : FusedDisk D) (name : Name) (max : ℕ) (result : Result Content DiskFault) (new : FusedDisk D) : Type 0 where
  pub fuse : fuse_of new ≡ state_after (fused_failures failure_count old) (fuse_of old)
  pub outcome : Goes (without_effect (outcome_of (fused_failures failure_count old) (fuse_of old)))
      (λ answer. also_reads (fused_inner old) name max answer (fused_inner new)
      × CountsFailures (failure_count (fused_inner old)) (failure_count (fused_inner new)) answer)
      (fused_inner new ≡ fused_inner old) result
