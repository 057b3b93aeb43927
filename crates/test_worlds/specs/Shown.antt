-- What is read of the folders of a world.
use Rattle.std.specs.Prelude.{◌≡◌, ◌≢◌, ℕ, List, Option, Some, None}
use Rattle.conf_disk.specs.{Folder.{Folder, bytes_under, several_waited}, declared.disk.Name.TheVariants.Store}
use Rattle.conf_folder.specs.declared.fault.FolderFault.{FolderFault, TheVariants.{NotAStore, StoreExists}}
use Rattle.test_worlds.specs.{Entries.{Entry, IsFirst, entry_at}, Files.{remaining_of, waiting_of}, declared.file.MemoryFile.MemoryFile}

-- the file gives what `store.yaml` reads as, with the note of it
pub record IsStoreOf (folder : Folder) (file : MemoryFile) : Type 0 where
  pub bytes : List ℕ
  pub store : bytes_under folder Store ≡ Some bytes
  pub gives : remaining_of file ≡ Some bytes
  pub noted : waiting_of file ≡ several_waited folder

-- `None` if there is none
abbrev pub Shows : Folder → Option MemoryFile → Type 0
Shows folder None = bytes_under folder Store ≡ None
Shows folder (Some file) = IsStoreOf folder file

-- the same of a folder of which the disk may be handed out; then nothing is shown
abbrev pub ShowsIn : Option Folder → Option MemoryFile → Type 0
ShowsIn None file = ⊥
ShowsIn (Some folder) file = Shows folder file

-- the same of the first folder with a path
pub record ShowsAt (entries : List Entry) (path : List ℕ) (file : Option MemoryFile) : Type 0 where
  pub place : ℕ
  pub first : IsFirst entries path place
  pub shows : ShowsIn (entry_at entries place).folder file

-- the fault says nothing of the store
pub record SaysNothing (fault : FolderFault) : Type 0 where
  pub missing : fault ≢ NotAStore
  pub there : fault ≢ StoreExists
