-- Facts about the machine that hold whatever system keeps it.
use Rattle.std.specs.Prelude.{◌≡◌, ◌⊎◌, ℕ, Some}
use Rattle.file_calls.specs.{Machine.{File, Machine, Call, after, failing, file_bytes}, Crash.{Image, CrashLeaves, IsOnDevice, image_now}}

-- what reads see may be left
abbrev pub ReadingIsLeft : Type 0
ReadingIsLeft = (m : Machine) → CrashLeaves m (image_now m)

-- a crash within a call leaves nothing that a crash before or after the call doesn't
abbrev pub CallsLeaveNoOther : Type 0
CallsLeaveNoOther = (k : ℕ) (call : Call) (m : Machine) (image : Image) → CrashLeaves (failing k call m) image
    → CrashLeaves m image ⊎ CrashLeaves (after call m) image

-- of what is on the device whole, a crash leaves what reads see
abbrev pub DeviceIsLeft : Type 0
DeviceIsLeft = (m : Machine) (file : File) (image : Image) → IsOnDevice m file → CrashLeaves m image
    → image.given ≡ Some (file_bytes file)
