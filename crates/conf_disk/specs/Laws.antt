-- Facts about the model that hold of every folder.
use Rattle.std.specs.Prelude.{◌≡◌, ◌⊎◌, ◌↔◌, ◌+◌, ◌≤◌, ℕ, length, Bool, Some}
use Rattle.conf_disk.specs.{Folder.{File, Folder, Step, after, after_part}, Image.{Image, IsImage, IsTorn, IsLater, torn_bytes, image_now}}
use Rattle.conf_disk.specs.{Image.{folder_of_image, Places, holed_image_at}, declared.cuts.Cuts.Cuts}

-- a stage, cuts, the places of zeros, and whether the note is kept: such a choice leaves this image
pub record IsCutTo (folder : Folder) (image : Image) : Type 0 where
  pub stage : ℕ
  pub cuts : Cuts
  pub places : Places
  pub note : Bool
  pub is : holed_image_at folder stage cuts places note ≡ Some image

-- such choices give every image, and nothing else
abbrev pub ImagesAreCuts : Type 0
ImagesAreCuts = (folder : Folder) (image : Image) → IsImage folder image ↔ IsCutTo folder image

-- a prefix of the pending bytes, and zeros after it, is what may be left
abbrev pub PrefixesAreTorn : Type 0
PrefixesAreTorn = (file : File) (keep zeros : ℕ) → keep + zeros ≤ length file.pending
    → IsTorn file (torn_bytes file keep zeros)

-- what a crash leaves reads so
abbrev pub ImagesRead : Type 0
ImagesRead = (image : Image) → image_now (folder_of_image image) ≡ image

-- and every later crash leaves it, perhaps with the note
abbrev pub ImagesAreStable : Type 0
ImagesAreStable = (image later : Image) → IsImage (folder_of_image image) later ↔ IsLater image later

-- what reads is one of the images
abbrev pub ReadingIsAnImage : Type 0
ReadingIsAnImage = (folder : Folder) → IsImage folder (image_now folder)

-- a crash within a call, however far it has come, leaves nothing that a crash before or after the call wouldn't
abbrev pub CallsLeaveNoOther : Type 0
CallsLeaveNoOther = (k : ℕ) (step : Step) (folder : Folder) (image : Image) → IsImage (after_part k step folder) image
    → IsImage folder image ⊎ IsImage (after step folder) image
