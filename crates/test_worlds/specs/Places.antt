-- The places of a world, as contracts see them.
use Rattle.std.specs.Prelude.{◌≡◌, ℕ, ◌<◌, List, length, map, Option, Some, None, option_map, string_bytes}
use Rattle.conf_disk.specs.{Folder.{Folder, bytes_under}, Models.DiskModel, declared.disk.Name.TheVariants.Store}
use Rattle.test_worlds.specs.{Entries.{Entry, IsFirst, Changes, entry_at}, declared.places.{Place.Place, Places.Places}}
use Rattle.conf_tools.specs.declared.world.Access.{Access, TheVariants.New}

-- where a new store is to be made, there is none
abbrev pub HasWanted : Access → Folder → Type 0
HasWanted access folder = access ≡ New → bytes_under folder Store ≡ None

-- at which place the disk is that is handed out
abbrev pub held_at : {D : Type 0} → Places D → Option ℕ
held_at places = places.held

module _ {D : Type 0} (model : DiskModel D) where
  abbrev pub folder_in : Place D → Option Folder
  folder_in place = option_map model.folder place.disk

  abbrev pub entry_of : Place D → Entry
  entry_of place = record { path = string_bytes place.path; folder = folder_in place }

  abbrev pub entries_of : Places D → List Entry
  entries_of places = map entry_of places.places.items

  -- the disk of the first folder with a path is handed out
  pub record HandsOut (access : Access) (path : List ℕ) (old : Places D) (folder : Folder) (new : Places D) : Type 0 where
    pub place : ℕ
    pub first : IsFirst (entries_of old) path place
    pub was : (entry_at (entries_of old) place).folder ≡ Some folder
    pub change : Changes (entries_of old) (entries_of new) place None
    pub held : held_at new ≡ Some place
    pub wanted : HasWanted access folder

  -- a disk of this folder is given back, if one was handed out
  abbrev pub TakesBack : Folder → Places D → Places D → Type 0
  TakesBack folder old new = (place : ℕ) → held_at old ≡ Some place → place < length (entries_of old)
      → Changes (entries_of old) (entries_of new) place (Some folder)
