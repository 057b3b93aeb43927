-- What runs read of the stores of a world in memory.
use Rattle.std.specs.Prelude.{ℕ, List, ◌∷◌}
use Rattle.{conf_disk.specs.Models.DiskModel, conf_runs.specs.{Runs.AreRuns, Reads.{Writes, TurnInto, Asks, Shows}}}
use Rattle.conf_tools.specs.{Performs.Performs, Reads.ShowsTree, Worlds.Around, declared.program.Status.Status}
use Rattle.{conf_words.specs.declared.invocation.{Invocation.Invocation, ValueForm.ValueForm}, test_worlds.specs.Files.remaining_of}
use Rattle.test_worlds.specs.{Runs.MemoryEvent, Worlds.{memory_world, memory_leaves}, declared.world.MemoryWorld.MemoryWorld}
use Rattle.yaml_grammar.specs.Trees.{Tree}

module _ {D : Type 0} (model : DiskModel D) (honest : model.honest) (path name pointer : List ℕ) where
  -- A run put a value at the place, and others turned it into `last`. Then a run that asks for what is there writes that.
  abbrev pub MemoryReadsSeeWrites : Type 0
  MemoryReadsSeeWrites = (write : MemoryEvent model honest path) (value : Tree)
      → Writes (memory_world model) model remaining_of honest (memory_leaves model) path name pointer write value
      → (between : List (MemoryEvent model honest path)) (last : Tree)
      → TurnInto (memory_world model) model remaining_of honest (memory_leaves model) path name pointer value between last
      → (invocation : Invocation) (old new : Around (MemoryWorld D)) (status : Status)
      (does : Performs (memory_world model) model remaining_of invocation old new status) (form : ValueForm)
      → Asks (memory_world model) model remaining_of honest (memory_leaves model) path name pointer invocation form
      → AreRuns (memory_world model) model remaining_of honest (memory_leaves model) path
      (memory_leaves model write.old.world path) (write ∷ between) (memory_leaves model old.world path)
      → (bytes : List ℕ) → ShowsTree form last bytes
      → Shows (memory_world model) model remaining_of honest (memory_leaves model) path name pointer bytes invocation old new
      status does
