-- What `export --all` does: each configuration of a store is written into a file of its own.
use Rattle.std.specs.Prelude.{◌≡◌, ◌⊎◌, ◌++◌, ◌&&◌, ℕ, nat_lt, Bool, true, false, List, [], ◌∷◌, Option, Some, None, Result, Ok, Err}
use Rattle.std.specs.{Prelude.{IfSome, ◌+◌, codes, encode_utf8_all, length}, Str.bytes_eq}
use Rattle.{conf_files.specs.declared.create.NewFileFault.NewFileFault, conf_tools.specs.Prelude.{Contents, Entry, HistoryFault, HoldsAt}}
use Rattle.conf_tools.specs.Prelude.{NotAStore, RefusesReading, ReplaceFault, Tree, TreeForm, chars, config_limits, config_named, names_of}
use Rattle.conf_tools.specs.{Reads.{FileHolds, tree_text}, Refused.TellsFault, StoreWords.OpensFile, TextWords.replaced_or_not}
use Rattle.conf_tools.specs.{Tools.{IsTaken, Taken}, Worlds.WorldModel, declared.outcome.Ending.{Ending, TheVariants.{Of, ToldFault}}}
use Rattle.conf_tools.specs.declared.{outcome.Outcome.TheVariants.{Done, Reading}, reading_fault.ReadingFault.ReadingFault}
use Rattle.conf_tools.specs.declared.texts.ToolFault.{ToolFault, TheVariants.{Output, Read}}
use Rattle.conf_history.specs.declared.{fault.HistoryFault.TheVariants.Damaged, place.BadPiece.BadPiece}
use Rattle.conf_words.specs.declared.invocation.TreeForm.TheVariants.{Styled, Json, Plain}
use Rattle.yaml_events.specs.declared.read_fault.ReadFault.TheVariants.{OutOfMemory as NoMemory}
use Rattle.conf_files.specs.declared.create.NewFileFault.TheVariants as new_file
use Rattle.conf_files.specs.declared.replace.ReplaceFault.TheVariants as replacing
use Rattle.conf_history.specs.declared.fault.SalvageFault.TheVariants as salvage
use Rattle.conf_tools.specs.declared.reading_fault.ReadingFault.TheVariants as reading

-- ---- the files

-- how the names of files in a form end
abbrev pub file_ending : TreeForm → List ℕ
file_ending Styled = codes ".yaml"
file_ending Json = codes ".json"
file_ending Plain = codes ".yaml"

-- the file of a name in a folder
abbrev pub file_path : TreeForm → (into name : List ℕ) → List ℕ
file_path form into name = into ++ codes "/" ++ encode_utf8_all name ++ file_ending form

-- what came of a new file
abbrev pub made_or_not : Result (Unit {0}) NewFileFault → Result (Unit {0}) ToolFault
made_or_not (Ok done) = Ok tt
made_or_not (Err new_file.FileExists) = Err Output
made_or_not (Err new_file.Device) = Err Output
made_or_not (Err new_file.OutOfMemory) = Err (Read NoMemory)

-- what was read of a file is these bytes, which are few enough to have been read whole
abbrev pub has_bytes : Taken → List ℕ → Bool
has_bytes (Ok found) bytes = nat_lt (length bytes) (config_limits.bytes + 1) && bytes_eq found.items bytes
has_bytes (Err fault) bytes = false

-- how the word ends after all files
abbrev pub ending_of_put : Result (Unit {0}) ToolFault → Ending
ending_of_put (Ok done) = Of Done
ending_of_put (Err fault) = ToldFault fault

-- what holds of a file that was opened with its place, and what of a fault
abbrev pub IfOpened : {F P : Type 0} → Result (F × P) ReplaceFault → (F → P → Type 0) → (ReplaceFault → Type 0) → Type 0
IfOpened (Ok (file, place)) opened unopened = opened file place
IfOpened (Err fault) opened unopened = unopened fault

-- what holds after one that was put, and after one that was not
abbrev pub IfDone : Result (Unit {0}) ToolFault → Type 0 → Type 0 → Type 0
IfDone (Ok done) next ends = next
IfDone (Err fault) next ends = ends

-- a file of a store does not answer, for this reason
abbrev pub DoesNotAnswer : Bool → Option (List ℕ) → ReadingFault → Type 0
DoesNotAnswer several given (reading.History fault) = IfSome given (λ bytes. RefusesReading several bytes None fault)
DoesNotAnswer several given fault = ⊥

-- the bytes hold a store, which may be damaged
abbrev pub HoldsStore : Bool → List ℕ → Type 0
HoldsStore several bytes =
    ((state : Contents) × HoldsAt several bytes None state)
    ⊎ ((bad : BadPiece) × RefusesReading several bytes None (Damaged bad))

-- a fault that says neither that the file is a store nor that it is none
abbrev pub LeavesOpen : HistoryFault → Type 0
LeavesOpen NotAStore = ⊥
LeavesOpen (Damaged bad) = ⊥
LeavesOpen fault = Unit {0}

-- ---- one file

module _ {W D F P : Type 0} (world : WorldModel W D F P) (remaining : F → Option (List ℕ)) where
  -- what is in the place has these bytes, if that is so; else a file of them was put there, or why not
  abbrev pub PutsUnless : Bool → P → (bytes : List ℕ) → W → Result (Unit {0}) ToolFault → W → Type 0
  PutsUnless true place bytes old result new = (new ≡ old) × (result ≡ Ok tt)
  PutsUnless false place bytes old result new =
      (ended : Result (Unit {0}) ReplaceFault) × world.replaced place bytes old ended new
      × (result ≡ replaced_or_not ended)

  -- the file that was opened was read, and what is in its place has these bytes now, or why not
  pub record PutsOver (file : F) (place : P) (bytes : List ℕ) (old : W) (result : Result (Unit {0}) ToolFault) (new : W)
      : Type 0 where
    pub read : Taken
    pub left : Option (List ℕ)
    pub takes : IsTaken read (remaining file) left
    pub puts : PutsUnless (has_bytes read bytes) place bytes old result new

  -- The file at the path was opened, and has these bytes now, or why not; where it could not be opened, this holds.
  pub record Opens (path bytes : List ℕ) (old : W) (result : Result (Unit {0}) ToolFault) (new : W)
      (Unopened : ReplaceFault → W → Type 0) : Type 0 where
    pub found : Result (F × P) ReplaceFault
    pub seen : W
    pub opens : world.opened_to_replace path old found seen
    pub puts : IfOpened found (λ file place. PutsOver file place bytes seen result new) (λ fault. Unopened fault seen)

  -- a file that was made just now
  abbrev pub PutsAgain : (path bytes : List ℕ) → W → Result (Unit {0}) ToolFault → W → Type 0
  PutsAgain path bytes old result new =
      Opens path bytes old result new (λ fault seen. (new ≡ seen) × (result ≡ replaced_or_not (Err fault)))

  abbrev pub PutsMade : Result (Unit {0}) NewFileFault → (path bytes : List ℕ) → W → Result (Unit {0}) ToolFault → W → Type 0
  PutsMade (Ok done) path bytes old result new = PutsAgain path bytes old result new
  PutsMade (Err fault) path bytes old result new = (new ≡ old) × (result ≡ made_or_not (Err fault))

  -- an empty file was made, where nothing was, and has these bytes now, or why not
  pub record PutsNew (path bytes : List ℕ) (old : W) (result : Result (Unit {0}) ToolFault) (new : W) : Type 0 where
    pub made : Result (Unit {0}) NewFileFault
    pub tried : W
    pub makes : world.created_file path [] old made tried
    pub puts : PutsMade made path bytes tried result new

  -- where none was opened, memory ran out, or a new file is made
  abbrev pub PutsUnopened : ReplaceFault → (path bytes : List ℕ) → W → Result (Unit {0}) ToolFault → W → Type 0
  PutsUnopened replacing.OutOfMemory path bytes old result new = (new ≡ old) × (result ≡ Err (Read NoMemory))
  PutsUnopened replacing.Device path bytes old result new = PutsNew path bytes old result new

  -- A file of these bytes is at the path, whole: in the place of what was there, or of an empty file that was made there
  -- first; or why not.
  abbrev pub PutsFile : (path bytes : List ℕ) → W → Result (Unit {0}) ToolFault → W → Type 0
  PutsFile path bytes old result new = Opens path bytes old result new (λ fault seen. PutsUnopened fault path bytes seen result new)

  -- the file of a name has the text of a tree, or why not
  abbrev pub PutsTree : TreeForm → (into name : List ℕ) → Tree → W → Result (Unit {0}) ToolFault → W → Type 0
  PutsTree form into name tree old result new =
      PutsFile (file_path form into name) (encode_utf8_all (tree_text form tree)) old result new
      ⊎ ((new ≡ old) × (result ≡ Err (Read NoMemory)))

  -- the same of what is under the name
  abbrev pub PutsConfig : TreeForm → (into name : List ℕ) → Option Tree → W → Result (Unit {0}) ToolFault → W → Type 0
  PutsConfig form into name (Some tree) old result new = PutsTree form into name tree old result new
  PutsConfig form into name None old result new = (new ≡ old) × (result ≡ Ok tt)

  -- ---- all files

  -- What is under each of these names was put into its file, one after the other, up to the first that was not.
  abbrev pub PutsAll : TreeForm → List ℕ → List Entry → List (List ℕ) → W → Result (Unit {0}) ToolFault → W → Type 0
  PutsAll form into configs [] old result new = (new ≡ old) × (result ≡ Ok tt)
  PutsAll form into configs (name ∷ names) old result new =
      (now : W) × (first : Result (Unit {0}) ToolFault)
      × PutsConfig form into name (config_named configs name) old first now
      × IfDone first (PutsAll form into configs names now result new) ((new ≡ now) × (result ≡ first))

  -- what the store in a folder holds was read, or why not
  abbrev pub ReadsWhole : List ℕ → W → Result Contents ReadingFault → W → Type 0
  ReadsWhole folder old (Ok state) new =
      (file : F) × OpensFile world folder old (Ok file) new × FileHolds (world.several file) (remaining file) None state
  ReadsWhole folder old (Err fault) new =
      OpensFile world folder old (Err fault) new
      ⊎ ((file : F) × OpensFile world folder old (Ok file) new × DoesNotAnswer (world.several file) (remaining file) fault)

  -- no store is in the folder: it has no file of one, or the file that has this name is none
  abbrev pub HasNoStore : List ℕ → W → W → Type 0
  HasNoStore into old new =
      world.opened_store into old (Ok None) new
      ⊎ ((file : F) × world.opened_store into old (Ok (Some file)) new
      × IfSome (remaining file) (λ bytes. RefusesReading (world.several file) bytes None NotAStore))

  -- The folder of the files was made, unless it was there, and has no store; or why there may be no files.
  abbrev pub MayHoldFiles : List ℕ → W → Result (Unit {0}) ReadingFault → W → Type 0
  MayHoldFiles into old (Ok done) new =
      (made : W) × world.made_folder into old (Ok tt) made × HasNoStore into made new
  MayHoldFiles into old (Err (reading.Folder fault)) new =
      world.made_folder into old (Err fault) new
      ⊎ ((made : W) × world.made_folder into old (Ok tt) made × world.opened_store into made (Err fault) new)
  MayHoldFiles into old (Err (reading.Salvage salvage.StoreExists)) new =
      (made : W) × (file : F) × world.made_folder into old (Ok tt) made × world.opened_store into made (Ok (Some file)) new
      × IfSome (remaining file) (HoldsStore (world.several file))
  MayHoldFiles into old (Err (reading.History fault)) new =
      (made : W) × (file : F) × world.made_folder into old (Ok tt) made × world.opened_store into made (Ok (Some file)) new
      × LeavesOpen fault × DoesNotAnswer (world.several file) (remaining file) (reading.History fault)
  MayHoldFiles into old (Err fault) new = ⊥

  -- the files were put into the folder, or why not
  abbrev pub PutsInto : TreeForm → List ℕ → List Entry → Result (Unit {0}) ReadingFault → W → Ending → W → Type 0
  PutsInto form into configs (Ok done) old ending new =
      (result : Result (Unit {0}) ToolFault) × PutsAll form into configs (names_of configs) old result new
      × (ending ≡ ending_of_put result)
  PutsInto form into configs (Err fault) old ending new = (new ≡ old) × (ending ≡ Of (Reading fault))

  -- The configurations that were read were written into files, or why none was read.
  abbrev pub ExportsRead : TreeForm → List ℕ → Result Contents ReadingFault → W → Ending → W → Type 0
  ExportsRead form into (Ok state) old ending new =
      (ready : Result (Unit {0}) ReadingFault) × (prepared : W) × MayHoldFiles into old ready prepared
      × PutsInto form into state.configs ready prepared ending new
  ExportsRead form into (Err fault) old ending new = (new ≡ old) × (ending ≡ Of (Reading fault))

  -- `export --all`
  pub record ExportsAll (form : TreeForm) (folder into : List ℕ) (old new : W) (ending : Ending) : Type 0 where
    pub read : Result Contents ReadingFault
    pub seen : W
    pub reads : ReadsWhole folder old read seen
    pub exports : ExportsRead form into read seen ending new

-- ---- what is told

module _ {E : Type 0} (hears : E → List ℕ → E → Type 0) where
  -- of a file that was not put nothing but its fault was told
  abbrev pub TellsPut : E → Result (Unit {0}) ToolFault → E → Type 0
  TellsPut old (Ok done) new = new ≡ old
  TellsPut old (Err fault) new = TellsFault hears old fault
