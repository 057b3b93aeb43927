-- What a world promises of the folders in it.
use Rattle.std.specs.Prelude.{◌≡◌, ◌≢◌, ℕ, List, Option, None, Result, Ok, Err}
use Rattle.conf_disk.specs.{Folder.bytes_under, Image.{Image, IsImage}, Models.DiskModel, declared.disk.Name.TheVariants.Store}
use Rattle.conf_files.specs.declared.{create.NewFileFault.NewFileFault, replace.ReplaceFault.ReplaceFault}
use Rattle.{conf_folder.specs.declared.fault.FolderFault.FolderFault, conf_tools.specs.{Worlds.WorldModel, declared.world.Access.Access}}
use Rattle.conf_tools.specs.declared.world.Access.TheVariants.{New}

-- `leaves` says of a moment what a crash then leaves of the folder at a path.
module _ {W : Type 0} (leaves : W → List ℕ → Image → Type 0) where
  -- a crash leaves no more of any folder than it might have left before
  abbrev pub LeavesNoMore : W → W → Type 0
  LeavesNoMore old new = (path : List ℕ) (image : Image) → leaves new path image → leaves old path image

module _ {W D : Type 0} (disk : DiskModel D) (leaves : W → List ℕ → Image → Type 0) where
  -- The disk of a folder was handed out, and given back: what may be left of the disk is what may be left of the folder,
  -- before and after. No other folder has changed.
  pub record IsDiskOf (path : List ℕ) (old : W) (first last : D) (new : W) : Type 0 where
    pub handed_out : (image : Image) → IsImage (disk.folder first) image → leaves old path image
    pub given_back : (image : Image) → leaves new path image → IsImage (disk.folder last) image
    pub elsewhere : (other : List ℕ) (image : Image) → other ≢ path → leaves new other image → leaves old other image

module _ {W D F P : Type 0} (world : WorldModel W D F P) (disk : DiskModel D) (leaves : W → List ℕ → Image → Type 0) where
  -- A folder changes by what is done on its disk, and by nothing else: no file that words name is that of a store.
  pub record KeepsFolders : Type 0 where
    pub disks : (access : Access) (path : List ℕ) (old opened new : W) (first last : D)
        → world.opened access path old (Ok first) opened → world.given_back last opened new
        → IsDiskOf disk leaves path old first last new
    pub no_disk : (access : Access) (path : List ℕ) (old new : W) (fault : FolderFault)
        → world.opened access path old (Err fault) new → LeavesNoMore leaves old new
    pub made : (path : List ℕ) (old new : W) (result : Result (Unit {0}) FolderFault)
        → world.made_folder path old result new → LeavesNoMore leaves old new
    pub stores : (path : List ℕ) (old new : W) (result : Result (Option F) FolderFault)
        → world.opened_store path old result new → LeavesNoMore leaves old new
    pub files : (path : List ℕ) (old new : W) (result : Option F)
        → world.opened_file path old result new → LeavesNoMore leaves old new
    pub new_files : (path bytes : List ℕ) (old new : W) (result : Result (Unit {0}) NewFileFault)
        → world.created_file path bytes old result new → LeavesNoMore leaves old new
    pub places : (path : List ℕ) (old new : W) (result : Result (F × P) ReplaceFault)
        → world.opened_to_replace path old result new → LeavesNoMore leaves old new
    pub replaced : (place : P) (bytes : List ℕ) (old new : W) (result : Result (Unit {0}) ReplaceFault)
        → world.replaced place bytes old result new → LeavesNoMore leaves old new

module _ {W D F P : Type 0} (world : WorldModel W D F P) (disk : DiskModel D) where
  -- where a new store is to be made, no disk is handed out that has one
  abbrev pub HandsOutNone : Type 0
  HandsOutNone = (path : List ℕ) (old opened : W) (first : D) → world.opened New path old (Ok first) opened
      → bytes_under (disk.folder first) Store ≡ None
