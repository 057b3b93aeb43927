-- A world in memory, as contracts see it.
use Rattle.std.specs.{Prelude.{◌≡◌, ◌⊎◌, ℕ, List, Option, Result, IfOk, IfErr, MatchResult, String}, declared.alloc.Global.Global}
use Rattle.{conf_disk.specs.{Image.Image, Models.DiskModel}, conf_folder.specs.declared.fault.FolderFault.FolderFault}
use Rattle.{conf_tools.specs.{Worlds.WorldModel, declared.world.Access.{Access, TheVariants.Reading}}, test_worlds.specs.Files.waiting_of}
use Rattle.test_worlds.specs.{Shown.{ShowsAt, SaysNothing}, declared.{file.MemoryFile.MemoryFile, world.MemoryWorld.MemoryWorld}}
use Rattle.test_worlds.specs.{Entries.{Entry, Adds, Leaves}, Places.{entries_of, HandsOut, TakesBack}}

module _ {D : Type 0} (model : DiskModel D) where
  abbrev pub entries_in : MemoryWorld D → List Entry
  entries_in world = entries_of model world.places

  -- no folder changed
  abbrev pub Stays : MemoryWorld D → MemoryWorld D → Type 0
  Stays old new = model.honest → entries_in new ≡ entries_in old

  abbrev pub Opens : Access → List ℕ → MemoryWorld D → Result D FolderFault → MemoryWorld D → Type 0
  Opens access path old result new = model.honest → MatchResult result
      (λ disk. HandsOut model access path old.places (model.folder disk) new.places)
      (λ fault. entries_in new ≡ entries_in old)

  -- where a store is to be read, a fault says nothing of it
  abbrev pub SaysOfFault : Access → Result D FolderFault → Type 0
  SaysOfFault access result = access ≡ Reading → IfErr result SaysNothing

  -- a store was shown, or not
  abbrev pub ShowsStore : List ℕ → MemoryWorld D → Result (Option MemoryFile) FolderFault → Type 0
  ShowsStore path old result = model.honest → IfOk result (ShowsAt (entries_in old) path)

  abbrev pub Makes : List ℕ → MemoryWorld D → MemoryWorld D → Type 0
  Makes path old new = model.honest → (entries_in new ≡ entries_in old) ⊎ Adds (entries_in old) (entries_in new) path

  abbrev pub GivesBack : D → MemoryWorld D → MemoryWorld D → Type 0
  GivesBack disk old new = TakesBack model (model.folder disk) old.places new.places

  abbrev pub memory_world : WorldModel (MemoryWorld D) D MemoryFile (String Global)
  memory_world = record {
    made_folder = λ path old result new. Makes path old new;
    opened = λ access path old result new. Opens access path old result new × SaysOfFault access result;
    given_back = λ disk old new. GivesBack disk old new;
    opened_store = λ path old result new. Stays old new × ShowsStore path old result × IfErr result SaysNothing;
    several = waiting_of;
    opened_file = λ path old result new. Stays old new;
    opened_to_replace = λ path old result new. Stays old new;
    created_file = λ path bytes old result new. Stays old new;
    replaced = λ place bytes old result new. Stays old new;
  }

  -- what a crash leaves of the folder at a path
  abbrev pub memory_leaves : MemoryWorld D → List ℕ → Image → Type 0
  memory_leaves world path image = Leaves (entries_in world) path image
