-- What `verify` and `salvage` keep in a new file: the bytes that an opening drops of a store's file, or is refused for. And
-- what they do then, which is what they do without.
use Rattle.std.specs.{Prelude.{◌≡◌, ◌⊎◌, ℕ, Bool, List, [], ◌∷◌, drop, Option, Some, None, Result, Ok, Err, IfSome}, Borrow.Bor}
use Rattle.{conf_files.specs.declared.create.NewFileFault.NewFileFault, conf_tools.specs.Prelude.{Contents, DiskModel, Findings}}
use Rattle.conf_tools.specs.{Prelude.{HistoryFault, IsSurvey, RefusesSurvey}, Worlds.WorldModel, declared.outcome.Ending.Ending}
use Rattle.conf_tools.specs.declared.{outcome.Ending.TheVariants.Of, reading_fault.ReadingFault.{ReadingFault, TheVariants.History}}
use Rattle.conf_tools.specs.StoreWords.{OpensFile, Reads, Salvages, SavesInFolder, SaysSurvey}
use Rattle.conf_tools.specs.declared.outcome.Outcome.TheVariants as outcome

-- What a store's file gives, where that is known, are these bytes, and an opening keeps so many of them.
pub record KeepsOf (several : Bool) (given : Option (List ℕ)) (bytes : List ℕ) (kept : ℕ) : Type 0 where
  pub all : IfSome given (λ known. known ≡ bytes)
  pub state : Contents
  pub findings : Findings
  pub finds : IsSurvey several bytes state findings
  pub is : kept ≡ findings.kept

module _ {W D F P : Type 0} (world : WorldModel W D F P) where
  -- a new file of the bytes was made at the path, or why not; of no bytes none is made
  abbrev pub PutsFile : List ℕ → List ℕ → W → Result (Unit {0}) NewFileFault → W → Type 0
  PutsFile path [] old result new = (new ≡ old) × (result ≡ Ok tt)
  PutsFile path (byte ∷ bytes) old result new = world.created_file path (byte ∷ bytes) old result new

module _ {W D F P : Type 0} (world : WorldModel W D F P) (remaining : F → Option (List ℕ)) where
  -- The file of the store in the folder was read, which has these bytes. Those that an opening drops, or is refused for,
  -- were put into a new file at the path, or why not.
  pub record KeepsDropped (folder path : List ℕ) (several : Bool) (bytes : List ℕ) (old : W)
      (result : Result (Unit {0}) NewFileFault) (new : W) : Type 0 where
    pub file : F
    pub noted : several ≡ world.several file
    pub found : W
    pub opens : OpensFile world folder old (Ok file) found
    pub kept : ℕ
    pub keeps : KeepsOf several (remaining file) bytes kept
    pub puts : PutsFile world path (drop kept bytes) found result new

  -- the file of the store in the folder was not opened
  pub record CannotOpen (folder : List ℕ) (old new : W) (ending : Ending) : Type 0 where
    pub fault : ReadingFault
    pub opens : OpensFile world folder old (Err fault) new
    pub ends : ending ≡ Of (outcome.Reading fault)

  -- it was opened, and does not answer
  pub record CannotSurvey (folder : List ℕ) (old new : W) (ending : Ending) : Type 0 where
    pub file : F
    pub opens : OpensFile world folder old (Ok file) new
    pub fault : HistoryFault
    pub refuses : IfSome (remaining file) (λ bytes. RefusesSurvey bytes fault)
    pub ends : ending ≡ Of (outcome.Reading (History fault))

  -- the new file was not made
  pub record CannotPut (folder path : List ℕ) (old new : W) (ending : Ending) : Type 0 where
    pub several : Bool
    pub bytes : List ℕ
    pub fault : NewFileFault
    pub keeps : KeepsDropped folder path several bytes old (Err fault) new
    pub ends : ending ≡ Of (outcome.Keeping fault)

  -- why nothing is kept
  abbrev pub CannotKeep : List ℕ → List ℕ → W → W → Ending → Type 0
  CannotKeep folder path old new ending =
      CannotOpen folder old new ending ⊎ CannotSurvey folder old new ending ⊎ CannotPut folder path old new ending

  -- nothing is kept, and nothing is written
  pub record EndsUnkept (folder path : List ℕ) (old new : W) (held written : Option (List ℕ)) (ending : Ending)
      : Type 0 where
    pub cannot : CannotKeep folder path old new ending
    pub keeps : written ≡ held

  -- `verify`, where what an opening drops is kept first
  pub record VerifiesKept (folder path : List ℕ) (old new : W) (held written : Option (List ℕ)) (ending : Ending)
      : Type 0 where
    pub several : Bool
    pub bytes : List ℕ
    pub keeps : KeepsDropped folder path several bytes old (Ok tt) new
    pub says : SaysSurvey several (Some bytes) held written ending

  -- `verify`, with a path for what an opening drops, or with none
  abbrev pub Verifies : List ℕ → Option (Bor (List ℕ)) → W → W → Option (List ℕ) → Option (List ℕ) → Ending → Type 0
  Verifies folder None old new held written ending = Reads world remaining folder SaysSurvey old new held written ending
  Verifies folder (Some path) old new held written ending =
      EndsUnkept folder path.now old new held written ending ⊎ VerifiesKept folder path.now old new held written ending

module _ {W D F P : Type 0} (world : WorldModel W D F P) (disk : DiskModel D) (remaining : F → Option (List ℕ)) where
  -- `salvage`, where what an opening drops is kept first
  pub record SalvagesKept (folder path new_folder : List ℕ) (old new : W) (held written : Option (List ℕ))
      (ending : Ending) : Type 0 where
    pub several : Bool
    pub bytes : List ℕ
    pub found : W
    pub keeps : KeepsDropped world remaining folder path several bytes old (Ok tt) found
    pub saves : SavesInFolder world disk new_folder several (Some bytes) found new held written ending

  -- `salvage`, with a path for what an opening drops, or with none
  abbrev pub SalvagesTo : List ℕ → Option (Bor (List ℕ)) → List ℕ → W → W → Option (List ℕ) → Option (List ℕ) → Ending
      → Type 0
  SalvagesTo folder None new_folder old new held written ending =
      Salvages world disk remaining folder new_folder old new held written ending
  SalvagesTo folder (Some path) new_folder old new held written ending =
      EndsUnkept world remaining folder path.now old new held written ending
      ⊎ SalvagesKept folder path.now new_folder old new held written ending
