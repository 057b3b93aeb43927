-- Runs of the program in a world in memory.
use Rattle.std.specs.Prelude.{ℕ, List}
use Rattle.{conf_disk.specs.{Image.Image, Models.DiskModel}, conf_state.specs.States.Contents, conf_store.specs.Meaning.ImageMeans}
use Rattle.{conf_runs.specs.Runs.{Event, AreRuns, Holds}, test_worlds.specs.{Files.remaining_of, Worlds.{memory_world, memory_leaves}}}
use Rattle.test_worlds.specs.declared.world.MemoryWorld.{MemoryWorld}

module _ {D : Type 0} (model : DiskModel D) (honest : model.honest) (path : List ℕ) where
  -- a run of the program in the world
  abbrev pub MemoryEvent : Type 0
  MemoryEvent = Event (memory_world model) model remaining_of honest (memory_leaves model) path

  -- Where each image of the folder means a state before the runs, each image of it holds after them what was kept.
  abbrev pub MemoryRunsHold : Type 0
  MemoryRunsHold = (first last : MemoryWorld D) (events : List MemoryEvent)
      → ((image : Image) → memory_leaves model first path image → (state : Contents) × ImageMeans image state)
      → AreRuns (memory_world model) model remaining_of honest (memory_leaves model) path
      (memory_leaves model first path) events (memory_leaves model last path)
      → (image : Image) → memory_leaves model last path image
      → Holds (memory_world model) model remaining_of honest (memory_leaves model) path first events image
