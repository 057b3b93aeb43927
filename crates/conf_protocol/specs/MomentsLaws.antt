-- What the trait asks of a disk over a system: the images of now.
use Rattle.std.{specs.Prelude.{◌≡◌, ℕ}, proofs.Common.subst}
use Rattle.{conf_disk.specs.Image.{Image, IsImage, IsWhole}, conf_system.specs.{Crash.IsSound, Machine.Machine, Folders.folder_of}}
use Rattle.{conf_system.{specs.Models.SystemModel, proofs.Crashes.sound-whole}, conf_protocol.specs.Moments.LeftSince}

pub left_now : {S : Type 0} (model : SystemModel S) (s : S) (t : ℕ) (image : Image) → model.held s t (model.machine s)
    → IsImage (folder_of (model.machine s)) image → LeftSince model s t image
left_now model s t image held is = record { machine = model.machine s; held = held; is = is }

pub left_only_now : {S : Type 0} (model : SystemModel S) (s : S) (image : Image)
    → ((m : Machine) → model.held s (model.moment s) m → m ≡ model.machine s)
    → LeftSince model s (model.moment s) image → IsImage (folder_of (model.machine s)) image
left_only_now model s image only left =
    subst (λ (m : Machine). IsImage (folder_of m) image) (only left.machine left.held) left.is

pub folder_whole : (m : Machine) → IsSound m → IsWhole (folder_of m)
folder_whole m sound = sound-whole m sound
