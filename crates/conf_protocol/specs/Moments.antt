-- What a disk over a system shows of its moments.
use Rattle.std.specs.Prelude.{◌≡◌, ◌⊎◌, ℕ, Bool, Option, Result, MatchResult}
use Rattle.conf_disk.specs.{Folder.{Step, after, after_part, bytes_under}, Image.{Image, IsImage}, declared.disk.Name.Name}
use Rattle.conf_system.specs.{Machine.{Version, Machine, with_copy}, Folders.{folder_of, IsTold}, Models.{SystemModel, Passes}}
use Rattle.conf_protocol.specs.Keeps.{IsSafe, IsExact}

-- what a crash at some moment since t might have left, as a disk says it
pub record LeftSince {S : Type 0} (model : SystemModel S) (system : S) (t : ℕ) (image : Image) : Type 0 where
  pub machine : Machine
  pub held : model.held system t machine
  pub is : IsImage (folder_of machine) image

-- a machine of which a crash leaves what it leaves of one of two others
abbrev pub IsBetween : Machine → Machine → Machine → Type 0
IsBetween one other m =
    (image : Image) → IsImage (folder_of m) image → IsImage (folder_of one) image ⊎ IsImage (folder_of other) image

-- A run may end here: on what a kill leaves the next one may build, and a crash leaves the note by which this one goes, if
-- it would have left it before.
pub record MayEnd (old m : Machine) : Type 0 where
  pub safe : IsSafe m
  pub told : IsTold old → IsTold m

-- at each moment a crash left what it left before or leaves now, and the run might have ended
pub record Changes {S : Type 0} (model : SystemModel S) (old new : S) : Type 0 where
  pub moments : Passes model old new (λ m.
      IsBetween (model.machine old) (model.machine new) m × MayEnd (model.machine old) m)
  pub told : IsTold (model.machine old) → IsTold (model.machine new)

-- at each moment the folder was that of before, as it is now, and the run might have ended
pub record Quiet {S : Type 0} (model : SystemModel S) (old new : S) : Type 0 where
  pub moments : Passes model old new (λ m.
      (folder_of m ≡ folder_of (model.machine old)) × MayEnd (model.machine old) m)
  pub told : IsTold (model.machine old) → IsTold (model.machine new)
  pub folder : folder_of (model.machine new) ≡ folder_of (model.machine old)

-- How a step of a disk goes, in a run that says before and after it whether several appends may have waited. What it
-- says stays exact.
pub record Goes {S E : Type 0} (model : SystemModel S) (step : Step)
    (was : Bool) (old : S) (result : Result (Unit {0}) E) (is : Bool) (new : S) : Type 0 where
  pub change : MatchResult result (λ _. folder_of (model.machine new) ≡ after step (folder_of (model.machine old)))
      (λ _. (k : ℕ) × (folder_of (model.machine new) ≡ after_part k step (folder_of (model.machine old))))
  pub moments : Changes model old new
  pub exact : IsExact was (model.machine old) → IsExact is (model.machine new)

-- each name of the disk reads as it did
abbrev pub ReadsAsBefore : Machine → Machine → Type 0
ReadsAsBefore old new = (name : Name) → bytes_under (folder_of new) name ≡ bytes_under (folder_of old) name

-- nothing but the copy changed
pub record Copies {S : Type 0} (model : SystemModel S) (old new : S) : Type 0 where
  pub copy : Option Version
  pub is : model.machine new ≡ with_copy (model.machine old) copy
  pub moments : Passes model old new (λ m. (copy : Option Version) × (m ≡ with_copy (model.machine old) copy))
