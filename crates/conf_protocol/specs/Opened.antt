-- What a run that opens a folder leaves at each moment, and what a crash left for it.
use Rattle.std.specs.Prelude.{◌≡◌, Option, is_some, Bool, ◌&&◌}
use Rattle.{conf_disk.specs.Image.Image, conf_system.specs.{declared.system.Note.Note, Machine.{Version, Machine}, Crash.CrashLeaves}}
use Rattle.{conf_system.specs.{Crash.machine_of, Models.{SystemModel, Passes}}, conf_protocol.specs.{Keeps.IsSafe, Moments.ReadsAsBefore}}

-- A run may be killed here, and the machine may crash: the next run may build on what is left, each name reads as before,
-- and a crash leaves nothing that it might not have left before.
pub record IsAsBefore (old m : Machine) : Type 0 where
  pub safe : IsSafe m
  pub reads : ReadsAsBefore old m
  pub crash : (image : Image) → CrashLeaves m image → CrashLeaves old image

-- at each moment, and now
pub record Opens {S : Type 0} (model : SystemModel S) (old new : S) : Type 0 where
  pub moments : Passes model old new (IsAsBefore (model.machine old))
  pub now : IsAsBefore (model.machine old) (model.machine new)

-- a note was read, by which the run goes
pub record GoesBy (note : Note) (m : Machine) : Type 0 where
  pub is : m.note ≡ note
  pub noted : m.noted m.now.store ≡ note.several

-- The machine that is started on what a crash left, with whatever copy, and whatever is noted of the device. Where there is
-- no `store.yaml`, nothing is noted of it.
abbrev pub started_on : Image → Option Version → Bool → Machine
started_on image copy on_device = machine_of image copy (is_some image.store && on_device)

-- whatever a crash left, a run may build on it
abbrev pub CrashesAreSafe : Type 0
CrashesAreSafe = (image : Image) (copy : Option Version) (on_device : Bool) → IsSafe (started_on image copy on_device)
