-- What `backup` does: which file and which disk the world hands out, what is done with them, and that the disk is given
-- back.
use Rattle.std.specs.Prelude.{◌≡◌, ◌⊎◌, ℕ, Bool, List, Option, Result, Ok, Err, IfOk, IfErr}
use Rattle.conf_tools.specs.Prelude.{DiskModel, BacksUp, LeavesOldOrCopy, RefusesBackup, disk_handed_back, SalvageFault}
use Rattle.conf_tools.specs.{Endings.ending_after_backup, Worlds.WorldModel, declared.outcome.Ending.{Ending, TheVariants.Of}}
use Rattle.conf_tools.specs.{declared.{outcome.Outcome.TheVariants.Reading, reading_fault.ReadingFault.ReadingFault}, StoreWords.OpensFile}
use Rattle.conf_tools.specs.StoreWords.{OpensNew}

module _ {W D F P : Type 0} (world : WorldModel W D F P) (disk : DiskModel D) where
  -- A store was made on the disk of the new folder, with the base and the records that the file gives, or why not; and
  -- the disk was given back.
  pub record BacksUpTo (folder : List ℕ) (several : Bool) (given : Option (List ℕ)) (old new : W) (ending : Ending)
      : Type 0 where
    pub first : D
    pub opened : W
    pub opens : OpensNew world folder old (Ok first) opened
    pub result : Result D (D × SalvageFault)
    pub gives_back : world.given_back (disk_handed_back result) opened new
    pub ends : ending ≡ ending_after_backup result
    pub left : Option (List ℕ)
    pub made : disk.honest → IfOk result (λ made. BacksUp several given left (disk.folder first) (disk.folder made))
    pub refused : disk.honest → IfErr result
        (λ refused. RefusesBackup several given left (disk.folder first) (disk.folder refused.0) refused.1)
    pub survives : disk.honest → LeavesOldOrCopy several disk given left first (disk_handed_back result)

  -- the new folder can't hold a store
  pub record CannotBackUpTo (folder : List ℕ) (old new : W) (ending : Ending) : Type 0 where
    pub fault : ReadingFault
    pub opens : OpensNew world folder old (Err fault) new
    pub ends : ending ≡ Of (Reading fault)

  -- a store in a new folder, of what a store's file gives
  abbrev pub BacksUpInFolder : List ℕ → Bool → Option (List ℕ) → W → W → Ending → Type 0
  BacksUpInFolder folder several given old new ending =
      CannotBackUpTo folder old new ending ⊎ BacksUpTo folder several given old new ending

module _ {W D F P : Type 0} (world : WorldModel W D F P) (disk : DiskModel D) (remaining : F → Option (List ℕ)) where
  -- what is made of the file of a store, where it was opened
  abbrev pub BacksUpFound : List ℕ → Result F ReadingFault → W → W → Ending → Type 0
  BacksUpFound folder (Ok file) old new ending =
      BacksUpInFolder world disk folder (world.several file) (remaining file) old new ending
  BacksUpFound folder (Err fault) old new ending = (new ≡ old) × (ending ≡ Of (Reading fault))

  -- `backup`
  pub record BacksUpStore (folder new_folder : List ℕ) (old new : W) (ending : Ending) : Type 0 where
    pub file : Result F ReadingFault
    pub found : W
    pub opens : OpensFile world folder old file found
    pub makes : BacksUpFound new_folder file found new ending
