-- The folder after a list of steps, and what a crash on the way leaves.
use Rattle.std.specs.Prelude.{ℕ, ◌≤◌, List, [], ◌∷◌, length, slice_get, take, Option, Some, None}
use Rattle.conf_disk.specs.{Folder.{Folder, Step, after, after_part}, Image.{Image, IsImage}}

-- the folder after these steps, from the first to the last
abbrev pub folder_after : List Step → Folder → Folder
folder_after [] folder = folder
folder_after (step ∷ steps) folder = folder_after steps (after step folder)

-- the folder when a part of a step is done, as `after_part` counts parts; without a step, as it is
abbrev pub folder_within : Option Step → ℕ → Folder → Folder
folder_within None part folder = folder
folder_within (Some step) part folder = after_part part step folder

-- the folder when the first `done` steps are done, and a part of the next one
abbrev pub folder_at : Folder → List Step → ℕ → ℕ → Folder
folder_at start steps done part = folder_within (slice_get steps done) part (folder_after (take done steps) start)

-- a crash leaves this image at some moment since t of the steps were done, between two steps or within one
pub record IsLeftSince (start : Folder) (steps : List Step) (t : ℕ) (image : Image) : Type 0 where
  pub done : ℕ
  pub part : ℕ
  pub since : t ≤ done
  pub until : done ≤ length steps
  pub is : IsImage (folder_at start steps done part) image
