-- Facts about the machine that hold whatever system keeps it.
use Rattle.std.specs.Prelude.{◌≡◌, ◌⊎◌, ◌↔◌, ℕ, ◌+◌, ◌<◌, ◌≤◌, List, ◌++◌, length, take, replicate, Option, Bool}
use Rattle.{conf_disk.specs.Image.Image, conf_system.specs.{declared.system.FileName.{FileName, TheVariants.Store}, Machine.Version}}
use Rattle.conf_system.specs.Machine.{Machine, Call, Sync, MayBeCalled, after, failing, failed_sync, synced, with_pending, bytes_under}
use Rattle.conf_system.specs.Crash.{IsTorn, CrashLeaves, IsSound, IsOnDevice, image_now, machine_of}

-- a crash may leave a prefix of the pending bytes, and zeros after it
abbrev pub PrefixesAreLeft : Type 0
PrefixesAreLeft = (version : Version) (keep zeros : ℕ) → keep + zeros ≤ length version.pending
    → IsTorn version (version.device ++ (take keep version.pending ++ replicate zeros 0))

-- what reads see may be left
abbrev pub ReadingIsLeft : Type 0
ReadingIsLeft = (m : Machine) → CrashLeaves m (image_now m)

-- of what is on the device whole, a crash leaves what reads see
abbrev pub DeviceIsLeft : Type 0
DeviceIsLeft = (m : Machine) (id : ℕ) (image : Image) → IsOnDevice m id → CrashLeaves m image
    → image.store ≡ bytes_under m Store

-- what a crash left is what is read then
abbrev pub ImagesRead : Type 0
ImagesRead = (image : Image) (copy : Option Version) (on_device : Bool) → image_now (machine_of image copy on_device) ≡ image

-- and every later crash leaves it
abbrev pub ImagesAreStable : Type 0
ImagesAreStable = (image later : Image) (copy : Option Version) (on_device : Bool)
    → CrashLeaves (machine_of image copy on_device) later ↔ (later ≡ image)

-- a crash within a call leaves nothing that a crash before or after the call doesn't
abbrev pub CallsLeaveNoOther : Type 0
CallsLeaveNoOther = (k : ℕ) (call : Call) (m : Machine) (image : Image) → CrashLeaves (failing k call m) image
    → CrashLeaves m image ⊎ CrashLeaves (after call m) image

-- a sync takes nothing back: what a crash leaves after it, a crash might have left before
abbrev pub SyncsLeaveLess : Type 0
SyncsLeaveLess = (name : FileName) (m : Machine) (image : Image) → CrashLeaves (after (Sync name) m) image → CrashLeaves m image

-- once a sync of a file failed that had pending bytes, no later one makes anything sure
abbrev pub FailedSyncsLast : Type 0
FailedSyncsLast = (version : Version) (bytes : List ℕ) → 0 < length version.pending
    → synced (with_pending bytes (failed_sync version)) ≡ with_pending bytes (failed_sync version)

-- a call leaves a sound machine sound, whether it is done or fails
abbrev pub CallsKeepSound : Type 0
CallsKeepSound = (call : Call) (m : Machine) → IsSound m → MayBeCalled call m → IsSound (after call m)

abbrev pub FailuresKeepSound : Type 0
FailuresKeepSound = (k : ℕ) (call : Call) (m : Machine) → IsSound m → MayBeCalled call m → IsSound (failing k call m)
