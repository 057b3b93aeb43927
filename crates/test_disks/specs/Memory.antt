-- A disk in memory, as the list of steps that it keeps.
use Rattle.std.specs.Prelude.{◌≡◌, ℕ, ◌+◌, min, List, [], ◌∷◌, ◌++◌, map, Option, option_map, slice_get, Result, OnOk, OnErr}
use Rattle.conf_disk.specs.{Folder.{Folder, Step, stages, under}, Image.folder_of_image, Log.folder_after, Moments.greatest}
use Rattle.{conf_disk.specs.declared.disk.{Name.Name, DiskFault.DiskFault}, test_disks.specs.Replay.{step_of, image_of, pending_in}}
use Rattle.test_disks.specs.declared.memory.MemoryDisk.{MemoryDisk}

-- the steps that were done, the first of them first
abbrev pub steps_of : MemoryDisk → List Step
steps_of disk = map step_of disk.changes.items

-- the folder before them, which a crash left
abbrev pub start_of : MemoryDisk → Folder
start_of disk = folder_of_image (image_of disk.start)

-- the folder that the disk has
abbrev pub memory_folder : MemoryDisk → Folder
memory_folder disk = folder_after (steps_of disk) (start_of disk)

-- the number of its failures
abbrev pub memory_failures : MemoryDisk → ℕ
memory_failures disk = disk.failures

-- A call that returns Ok is one step more and no failure. One that runs out of memory is a failure and no step.
pub record Notes {T : Type 0} (old : MemoryDisk) (step : Step) (result : Result T DiskFault)
    (new : MemoryDisk) : Type 0 where
  pub done : OnOk result (steps_of new ≡ steps_of old ++ step ∷ [])
  pub no_failure : OnOk result (memory_failures new ≡ memory_failures old)
  pub not_done : OnErr result (steps_of new ≡ steps_of old)
  pub same_start : start_of new ≡ start_of old
  pub failure : OnErr result (memory_failures new ≡ min (memory_failures old + 1) greatest)

-- how many bytes are pending at a place among a folder's stages in the file under a name
abbrev pub pending_of_stage : Folder → ℕ → Name → Option ℕ
pending_of_stage folder place name = option_map (λ stage. pending_in folder.files (under stage name)) (slice_get (stages folder) place)
