-- The world in memory keeps its folders.
use Rattle.std.proofs.Common.{◌≡◌, refl, ◌⊎◌, inl, inr, ℕ, ◌<◌, List, length, Option, Some, None, subst, arith}
use Rattle.conf_disk.specs.{Folder.Folder, Image.image_now, Laws.ReadingIsAnImage, Models.DiskModel}
use Rattle.conf_folder.specs.declared.fault.FolderFault.{FolderFault, TheVariants.{Device, Locked, NotAStore, StoreExists, OutOfMemory}}
use Rattle.conf_runs.specs.{FoldersRead.{MayLackStore, IsUnread, GivesStore, ShowsFolders}, Folders.{KeepsFolders, LeavesNoMore, IsDiskOf}}
use Rattle.{conf_runs.specs.Folders.HandsOutNone, test_worlds.specs.{Files.remaining_of, Shown.{ShowsIn, SaysNothing}}}
use Rattle.test_worlds.specs.{declared.{file.MemoryFile.MemoryFile, world.MemoryWorld.MemoryWorld}, Entries.{Entry, IsFirst, Leaves, Adds}}
use Rattle.test_worlds.specs.{Entries.entry_at, Places.HandsOut, Worlds.{entries_in, GivesBack, memory_world, memory_leaves}}
use Rattle.{test_worlds.proofs.Keeping.{given_back, elsewhere, added}, conf_tools.specs.declared.world.Access.Access}

module _ {D : Type 0} (model : DiskModel D) (honest : model.honest) where
  abbrev kept : MemoryWorld D → List Entry
  kept world = entries_in model world

  stays : (old new : MemoryWorld D) → kept new ≡ kept old → LeavesNoMore (memory_leaves model) old new
  stays old new is path image left = subst (λ (l : List Entry). Leaves l path image) is left

  makes : (path : List ℕ) (old new : MemoryWorld D) → (kept new ≡ kept old) ⊎ Adds (kept old) (kept new) path
      → LeavesNoMore (memory_leaves model) old new
  makes path old new (inl is) = stays old new is
  makes path old new (inr adds) = added (kept old) (kept new) path adds

  is-disk : (access : Access) (path : List ℕ) (old opened new : MemoryWorld D) (first last : D)
      → HandsOut model access path old.places (model.folder first) opened.places → GivesBack model last opened new
      → IsDiskOf model (memory_leaves model) path old first last new
  is-disk access path old opened new first last out back =
      let within : out.place < length (kept opened) = omega (arith, out.first.within, out.change.count) in
      record {
        handed_out = λ image is.
            record { folder = model.folder first; at = inl (out.place, out.first, out.was); is = is };
        given_back = given_back (kept old) (kept opened) (kept new) path out.place (model.folder last) out.first
            out.change (back out.place out.held within);
        elsewhere = elsewhere (kept old) (kept opened) (kept new) path out.place (model.folder last) out.first
            out.change (back out.place out.held within);
      }

  pub keeps-folders : KeepsFolders (memory_world model) model (memory_leaves model)
  keeps-folders = record {
    disks = λ access path old opened new first last out back. is-disk access path old opened new first last (out.0 honest) back;
    no_disk = λ access path old new fault is. stays old new (is.0 honest);
    made = λ path old new result made. makes path old new (made honest);
    stores = λ path old new result is. stays old new (is.0 honest);
    files = λ path old new result is. stays old new (is honest);
    new_files = λ path bytes old new result is. stays old new (is honest);
    places = λ path old new result is. stays old new (is honest);
    replaced = λ place bytes old new result is. stays old new (is honest);
  }

  pub hands-out-none : HandsOutNone (memory_world model) model
  hands-out-none path old opened first out = (out.0 honest).wanted refl

  -- ---- what is read

  left-now : ReadingIsAnImage → (now : MemoryWorld D) (path : List ℕ) (place : ℕ) → IsFirst (kept now) path place → (folder : Folder)
      → (entry_at (kept now) place).folder ≡ Some folder → memory_leaves model now path (image_now folder)
  left-now reads now path place first folder is = record { folder = folder; at = inl (place, first, is); is = reads folder }

  file-shown : ReadingIsAnImage → (now : MemoryWorld D) (path : List ℕ) (file : MemoryFile) (place : ℕ)
      → IsFirst (kept now) path place → (found : Option Folder) → (entry_at (kept now) place).folder ≡ found
      → ShowsIn found (Some file) → GivesStore (memory_world model) remaining_of (memory_leaves model) path now file
  file-shown reads now path file place first None is shown = absurd shown
  file-shown reads now path file place first (Some folder) is shown = record {
    image = image_now folder;
    is = left-now reads now path place first folder is;
    bytes = shown.bytes;
    store = shown.store;
    gives = shown.gives;
    noted = shown.noted;
  }

  none-shown : ReadingIsAnImage → (now : MemoryWorld D) (path : List ℕ) (place : ℕ)
      → IsFirst (kept now) path place → (found : Option Folder) → (entry_at (kept now) place).folder ≡ found
      → ShowsIn found None → MayLackStore (memory_leaves model) path now
  none-shown reads now path place first None is shown = absurd shown
  none-shown reads now path place first (Some folder) is shown =
      (image_now folder, left-now reads now path place first folder is, shown)

  unread : (path : List ℕ) (now : MemoryWorld D) (fault : FolderFault) → SaysNothing fault
      → IsUnread (memory_leaves model) fault path now
  unread path now NotAStore says = absurd (says.missing refl)
  unread path now StoreExists says = absurd (says.there refl)
  unread path now Device says = tt
  unread path now Locked says = tt
  unread path now OutOfMemory says = tt

  pub shows-folders : ReadingIsAnImage → ShowsFolders (memory_world model) remaining_of (memory_leaves model)
  shows-folders reads = record {
    file = λ path old new file is. let at = is.1 honest in
        file-shown reads old path file at.place at.first (entry_at (kept old) at.place).folder refl at.shows;
    no_file = λ path old new is. let at = is.1 honest in
        none-shown reads old path at.place at.first (entry_at (kept old) at.place).folder refl at.shows;
    unread = λ path old new fault is. unread path old fault is.2;
    unused = λ path old new fault is. unread path old fault (is.1 refl);
  }
