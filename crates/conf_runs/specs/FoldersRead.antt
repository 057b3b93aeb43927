-- What a world promises of what is read of the folders in it.
use Rattle.std.specs.Prelude.{◌≡◌, ◌⊎◌, ◌<◌, ℕ, List, length, Option, None, Some, Ok, Err}
use Rattle.{conf_disk.specs.Image.Image, conf_folder.specs.declared.fault.FolderFault.{FolderFault, TheVariants.{NotAStore, StoreExists}}}
use Rattle.{conf_journal.specs.Store.store_limit, conf_tools.specs.{Worlds.WorldModel, declared.world.Access.TheVariants.Reading}}

module _ {W : Type 0} (leaves : W → List ℕ → Image → Type 0) where
  -- a crash may leave the folder at a path without `store.yaml`
  abbrev pub MayLackStore : List ℕ → W → Type 0
  MayLackStore path now = (image : Image) × leaves now path image × (image.store ≡ None)

  -- or with one of more bytes than a store has
  abbrev pub MayHoldMore : List ℕ → W → Type 0
  MayHoldMore path now =
      (image : Image) × (bytes : List ℕ) × leaves now path image × (image.store ≡ Some bytes) × (store_limit < length bytes)

  -- Why the store in a folder can't be read: there is none, or it is too long. The other faults are of the system and of
  -- memory, and say nothing of it.
  abbrev pub IsUnread : FolderFault → List ℕ → W → Type 0
  IsUnread NotAStore path now = MayLackStore path now ⊎ MayHoldMore path now
  IsUnread StoreExists path now = ⊥
  IsUnread fault path now = Unit {0}

module _ {W D F P : Type 0} (world : WorldModel W D F P) (remaining : F → Option (List ℕ))
    (leaves : W → List ℕ → Image → Type 0) where
  -- an open file gives the `store.yaml` that a crash may leave in the folder, with the note that it may leave
  pub record GivesStore (path : List ℕ) (now : W) (file : F) : Type 0 where
    pub image : Image
    pub is : leaves now path image
    pub bytes : List ℕ
    pub store : image.store ≡ Some bytes
    pub gives : remaining file ≡ Some bytes
    pub noted : world.several file ≡ image.several

  -- What is read of a folder is what a crash may leave of it.
  pub record ShowsFolders : Type 0 where
    pub file : (path : List ℕ) (old new : W) (file : F) → world.opened_store path old (Ok (Some file)) new → GivesStore path old file
    pub no_file : (path : List ℕ) (old new : W) → world.opened_store path old (Ok None) new → MayLackStore leaves path old
    pub unread : (path : List ℕ) (old new : W) (fault : FolderFault) → world.opened_store path old (Err fault) new
        → IsUnread leaves fault path old
    pub unused : (path : List ℕ) (old new : W) (fault : FolderFault) → world.opened Reading path old (Err fault) new
        → IsUnread leaves fault path old
