-- What is done for an invocation with the stores in folders: all of `Does` that has to be known to judge what a store
-- keeps. Words that take no disk are not told apart.
use Rattle.std.specs.Prelude.{◌≡◌, ◌⊎◌, ℕ, List, [], Option, Result, Ok, Err}
use Rattle.{conf_files.specs.declared.create.NewFileFault.NewFileFault, conf_tools.specs.Prelude.{DiskModel, LeavesOnly, MeantAtEntry}}
use Rattle.conf_tools.specs.Prelude.{FolderFault, Invocation, ReplaceFault, Init, Import, Set, Alter, Batch, Checkpoint, Run, Export}
use Rattle.conf_tools.specs.{Prelude.{Salvage, Backup}, Backups.BacksUpStore, EndOfRun.EndOfRun, Keeping.SalvagesTo}
use Rattle.conf_tools.specs.{Outcomes.status_of_ending, Performs.{Alters, Batches, Imports, Sets, grouping_of}, StoreWords.ChangesInFolder}
use Rattle.conf_tools.specs.{StoreWords.{Inits, RunsOnFolder}, Worlds.{Around, LeavesStreams, WorldModel}, declared.program.Status.Status}
use Rattle.conf_tools.specs.declared.world.Access.TheVariants.{Changing, Reading}
use Rattle.conf_tools.specs.declared.changes.Change.TheVariants as change

module _ {W D F P : Type 0} (world : WorldModel W D F P) where
  -- The world went on by calls on files, and on folders that it made: it handed out no disk.
  pub data GoesOnByFiles : W → W → Type 0 where
    stays : (now : W) → GoesOnByFiles now now
    folds : (folder : List ℕ) (old : W) (result : Result (Unit {0}) FolderFault) (new : W)
        → world.made_folder folder old result new → GoesOnByFiles old new
    looks : (folder : List ℕ) (old : W) (result : Result (Option F) FolderFault) (new : W)
        → world.opened_store folder old result new → GoesOnByFiles old new
    reads : (path : List ℕ) (old : W) (file : Option F) (new : W) → world.opened_file path old file new
        → GoesOnByFiles old new
    makes : (path bytes : List ℕ) (old : W) (result : Result (Unit {0}) NewFileFault) (new : W)
        → world.created_file path bytes old result new → GoesOnByFiles old new
    finds : (path : List ℕ) (old : W) (result : Result (F × P) ReplaceFault) (new : W)
        → world.opened_to_replace path old result new → GoesOnByFiles old new
    replaces : (place : P) (bytes : List ℕ) (old : W) (result : Result (Unit {0}) ReplaceFault) (new : W)
        → world.replaced place bytes old result new → GoesOnByFiles old new
    then : (old between new : W) → GoesOnByFiles old between → GoesOnByFiles between new → GoesOnByFiles old new

module _ {W D F P : Type 0} (world : WorldModel W D F P) (disk : DiskModel D) where
  -- The disk of the folder was handed out, and given back. A crash leaves what the disk might have left before.
  pub record ReadsDisk (folder : List ℕ) (old new : W) : Type 0 where
    pub first : D
    pub opened : W
    pub opens : world.opened Reading folder old (Ok first) opened
    pub last : D
    pub gives_back : world.given_back last opened new
    pub survives : disk.honest → LeavesOnly disk first last (MeantAtEntry (disk.folder first))

  -- `export`: the same, or the disk was not handed out
  abbrev pub ReadsInFolder : List ℕ → W → W → Type 0
  ReadsInFolder folder old new =
      ((fault : FolderFault) × world.opened Reading folder old (Err fault) new) ⊎ ReadsDisk folder old new

module _ {W D F P : Type 0} (world : WorldModel W D F P) (disk : DiskModel D) (remaining : F → Option (List ℕ)) where
  -- what is done with stores, from `old` to `new`, and how the run ends
  abbrev pub DoesOnStores : Invocation → Around W → Around W → EndOfRun → Type 0
  DoesOnStores (Init folder) old new ending =
      Inits world disk folder.now old.world new.world ending × LeavesStreams old new
  DoesOnStores (Import asked about reporting) old new ending = Imports world disk remaining about asked old new ending
  DoesOnStores (Set target put about reporting) old new ending =
      Sets world disk remaining about target put old.world new.world old.input new.input ending × (new.output ≡ old.output)
  DoesOnStores (Alter target alteration about) old new ending =
      Alters world disk about target alteration old.world new.world ending × LeavesStreams old new
  DoesOnStores (Batch asked about reporting) old new ending = Batches world disk remaining about asked old new ending
  DoesOnStores (Checkpoint folder) old new ending =
      ChangesInFolder world disk Changing folder.now [] change.Checkpoint old.world new.world ending
      × LeavesStreams old new
  DoesOnStores (Run folder grouping) old new ending =
      RunsOnFolder world disk folder.now (grouping_of grouping) old new ending
  DoesOnStores (Export folder name form) old new ending =
      ReadsInFolder world disk folder.now old.world new.world
  DoesOnStores (Salvage folder new_folder keep_dropped) old new ending =
      SalvagesTo world disk remaining folder.now keep_dropped new_folder.now old.world new.world old.output new.output
      ending
      × (new.input ≡ old.input)
  DoesOnStores (Backup folder new_folder) old new ending =
      BacksUpStore world disk remaining folder.now new_folder.now old.world new.world ending × LeavesStreams old new
  DoesOnStores invocation old new ending = GoesOnByFiles world old.world new.world

  -- the same, with the status that follows of how it ends
  pub record PerformsOnStores (invocation : Invocation) (old new : Around W) (status : Status) : Type 0 where
    pub ending : EndOfRun
    pub does : DoesOnStores invocation old new ending
    pub is : status ≡ status_of_ending ending
