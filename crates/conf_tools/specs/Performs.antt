-- What the program does for an invocation, with the world around it, its input and its output, and how it ends.
use Rattle.std.specs.Prelude.{◌≡◌, ℕ, Bool, List, [], ◌∷◌, map, Option, Some, None, Result, Ok, Err, codes}
use Rattle.{conf_session.specs.Handings.Handing, conf_tools.specs.Prelude.{chars, DiskModel, After, Alteration, Asked, Comments}}
use Rattle.conf_tools.specs.Prelude.{Conditions, Put, Target, Invocation, Init, Import, Set, Alter, Batch, Checkpoint, Run, Export}
use Rattle.conf_tools.specs.Prelude.{ExportAll, Names, Get, AskedBatch, AskedImport, Exists, Log, Diff, DiffFiles, Verify, Salvage, Backup}
use Rattle.conf_tools.specs.{Prelude.{Format, Check, Style, Unparsed}, Batches.{IsBatch, counted_alone}, Asking.{AskedConditions, AsksFor}}
use Rattle.conf_tools.specs.{Backups.BacksUpStore, Keeping.{SalvagesTo, Verifies}, ConfigFiles.ExportsAll, LogWords.Logs, Tools.IsTaken}
use Rattle.conf_tools.specs.{Tools.Taken, Edits.placed_or_not, Endings.{EndsTold, EndsWith, ending_of_import}, Outcomes.Tells}
use Rattle.conf_tools.specs.{Outcomes.{TellsUnparsed, status_of_ending}, Statuses.{ShowsUnparsed, code_of}, declared.outcome.Ending.Ending}
use Rattle.conf_tools.specs.declared.{changes.{Action.Action, Change.Change}, file_words.Report.TheVariants.{Findings, Name}}
use Rattle.conf_tools.specs.declared.{program.Status.{Status, TheVariants.Done}, stores.Grouping.{Grouping, TheVariants.{Single, Grouped}}}
use Rattle.conf_tools.specs.{declared.{texts.ToolFault.ToolFault, world.Access.{Access, TheVariants.{Changing, Making}}}, Worlds.Around}
use Rattle.conf_tools.specs.{Worlds.{LeavesStreams, WorldModel}, StoreWords.{ChangesInFolder, ExportsFromFolder, Inits, MakesChange, Reads}}
use Rattle.conf_tools.specs.{StoreWords.{RunsOnFolder, SaysDiff, SaysNames, SaysPresence, SaysValues}, DiffWords.DiffsFiles}
use Rattle.conf_tools.specs.{Reads.pointers_of, TextWords.{ChecksRead, FormatsFile, FormatsRead, IsAlteration, IsImport, IsSet}}
use Rattle.conf_tools.specs.TextWords.{ReportsOnAll, RestylesAll, TakesText}
use Rattle.conf_words.specs.declared.invocation.{Grouping.Grouping as AskedGrouping, MissingStore.MissingStore, Root.Root}
use Rattle.{conf_words.specs.declared.invocation.Formatting.Formatting, yaml_data.specs.declared.tree.Tree.Tree as AboutTree}
use Rattle.conf_words.specs.declared.invocation.Formatting.TheVariants as formatting
use Rattle.conf_words.specs.declared.invocation.Grouping.TheVariants as asked
use Rattle.conf_words.specs.declared.invocation.MissingStore.TheVariants as missing
use Rattle.conf_tools.specs.declared.changes.Change.TheVariants as change

-- ---- what the words say, as the crates below take it

abbrev pub grouping_of : AskedGrouping → Grouping
grouping_of asked.Single = Single
grouping_of (asked.Grouped (Some bytes)) = Grouped (After bytes)
grouping_of (asked.Grouped None) = Grouped Asked

-- The output of an invocation, of what was written to it and what it took as answers: a session hands its answers to it
-- as to a sink, and each other word writes to it.
abbrev pub output_of : Invocation → Option (List ℕ) → Option (List ℕ) → Option (List ℕ)
output_of (Run folder grouping) written taken = taken
output_of invocation written taken = written

-- what is noted of the answers that the output took: a session alone hands it some
abbrev pub noted_of : Invocation → List Handing → List Handing
noted_of (Run folder grouping) handings = handings
noted_of invocation handings = []

-- the same of words, which may ask for nothing
abbrev pub noted_of_words : Result Invocation Unparsed → List Handing → List Handing
noted_of_words (Ok invocation) handings = noted_of invocation handings
noted_of_words (Err unparsed) handings = []

-- the output of words, which may ask for nothing
abbrev pub output_of_words : Result Invocation Unparsed → Option (List ℕ) → Option (List ℕ) → Option (List ℕ)
output_of_words (Ok invocation) written taken = output_of invocation written taken
output_of_words (Err unparsed) written taken = written

-- for what the folder of an import is opened
abbrev pub access_of : MissingStore → Access
access_of missing.Refused = Changing
access_of missing.Made = Making

-- ---- the input alone

-- the input was written in a style, or why not
pub record FormatsText (style : Style) (given left held written : Option (List ℕ)) (ending : Ending) : Type 0 where
  pub read : Taken
  pub takes : IsTaken read given left
  pub writes : FormatsRead style read held written ending

-- the findings of the input were written, or why not
pub record ChecksText (style : Style) (given left held written : Option (List ℕ)) (ending : Ending) : Type 0 where
  pub read : Taken
  pub takes : IsTaken read given left
  pub writes : ChecksRead style read held written ending

-- ---- the words

module _ {W D F P : Type 0} (world : WorldModel W D F P) (disk : DiskModel D) (wanted : Conditions) where
  -- the change was made of the store in a folder, if what is wanted held at a place of it
  pub record ChangesIf (access : Access) (folder name path : List ℕ) (change : Change) (old new : W) (ending : Ending)
      : Type 0 where
    pub conditions : AskedConditions
    pub asks : AsksFor (chars name) (chars path) wanted conditions
    pub makes : MakesChange world disk access folder conditions change old new ending

module _ {W D F P : Type 0} (world : WorldModel W D F P) (disk : DiskModel D) (wanted : Conditions) (about : Option AboutTree)
  where
    -- The action was done so, with the about. Where there is none to do, no folder is looked at.
    abbrev pub ChangesAt : Access → List ℕ → List ℕ → List ℕ → Result Action ToolFault → W → W → Ending → Type 0
    ChangesAt access folder name path (Ok action) old new ending =
        ChangesIf world disk wanted access folder name path (change.Act action about) old new ending
    ChangesAt access folder name path (Err fault) old new ending = (new ≡ old) × EndsWith fault ending

    -- the text of these bytes was imported
    pub record ImportsBytes (root : Root) (access : Access) (folder name bytes : List ℕ) (old new : W) (ending : Ending)
        : Type 0 where
      pub action : Result Action ToolFault
      pub is : IsImport root name bytes action
      pub made : Ending
      pub changes : ChangesAt access folder name [] action old new made
      pub ends : ending ≡ ending_of_import made

    -- the same of a text that was read; where none was, no folder is looked at
    abbrev pub ImportsRead : Root → Access → List ℕ → List ℕ → Taken → W → W → Ending → Type 0
    ImportsRead root access folder name (Ok bytes) old new ending =
        ImportsBytes root access folder name bytes.items old new ending
    ImportsRead root access folder name (Err fault) old new ending = (new ≡ old) × EndsWith fault ending

module _ {W D F P : Type 0} (world : WorldModel W D F P) (disk : DiskModel D) (about : Option AboutTree) where
  -- the action was done at a place that the words give, or there was none to do
  abbrev pub ChangesAtTarget : Target → Result Action ToolFault → W → W → Ending → Type 0
  ChangesAtTarget target action old new ending =
      ChangesAt world disk target.conditions about Changing target.folder.now target.name.now target.pointer.now action
      old new ending

module _ {W D F P : Type 0} (world : WorldModel W D F P) (disk : DiskModel D) (remaining : F → Option (List ℕ))
    (about : Option AboutTree) where
  -- `import`: a text is read, of a file or of the input for `-`, and then imported
  pub record Imports (asked : AskedImport) (old new : Around W) (ending : Ending) : Type 0 where
    pub read : Taken
    pub seen : W
    pub takes : TakesText world remaining asked.file.now read old.world seen old.input new.input
    pub imports : ImportsRead world disk asked.conditions about asked.root (access_of asked.missing) asked.folder.now
        asked.name.now read seen new.world ending
    pub output : new.output ≡ old.output

  -- `set`: the value is read of a file or of the input, if the words say so, and then put so
  pub record Sets (target : Target) (put : Put) (old new : W) (given left : Option (List ℕ)) (ending : Ending)
      : Type 0 where
    pub action : Result Action ToolFault
    pub seen : W
    pub is : IsSet world remaining target.name.now target.pointer.now put.value action old seen given left
    pub changes : ChangesAtTarget world disk about target (placed_or_not put.placing action) seen new ending

module _ {W D F P : Type 0} (world : WorldModel W D F P) (disk : DiskModel D) (about : Option AboutTree) where
  -- `delete`, `copy`, `rename` and `move`
  pub record Alters (target : Target) (alteration : Alteration) (old new : W) (ending : Ending) : Type 0 where
    pub action : Result Action ToolFault
    pub is : IsAlteration alteration target.name.now target.pointer.now action
    pub changes : ChangesAtTarget world disk about target action old new ending

module _ {W D F P : Type 0} (world : WorldModel W D F P) (disk : DiskModel D) (about : Option AboutTree) (folder : List ℕ)
    (count : Option ℕ) where
  -- the edits that these bytes list were made, all or none; where they list none, no folder is looked at
  pub record BatchesBytes (bytes : List ℕ) (old new : W) (ending : Ending) : Type 0 where
    pub action : Result Action ToolFault
    pub is : IsBatch bytes action
    pub changes : ChangesAt world disk (counted_alone count) about Changing folder [] [] action old new ending

  -- the same of a text that was read; where none was, no folder is looked at
  abbrev pub BatchesRead : Taken → W → W → Ending → Type 0
  BatchesRead (Ok bytes) old new ending = BatchesBytes bytes.items old new ending
  BatchesRead (Err fault) old new ending = (new ≡ old) × EndsWith fault ending

module _ {W D F P : Type 0} (world : WorldModel W D F P) (disk : DiskModel D) (remaining : F → Option (List ℕ))
    (about : Option AboutTree) where
  -- `batch`: a text is read, of a file or of the input for `-`, and then the edits that it lists are made
  pub record Batches (asked : AskedBatch) (old new : Around W) (ending : Ending) : Type 0 where
    pub read : Taken
    pub seen : W
    pub takes : TakesText world remaining asked.file.now read old.world seen old.input new.input
    pub makes : BatchesRead world disk about asked.folder.now asked.count read seen new.world ending
    pub output : new.output ≡ old.output

module _ {W D F P : Type 0} (world : WorldModel W D F P) (remaining : F → Option (List ℕ)) where
  -- `names`, `get`, `exists` and `diff`
  abbrev pub Asks : List ℕ → (Bool → Option (List ℕ) → Option (List ℕ) → Option (List ℕ) → Ending → Type 0)
      → Around W → Around W → Ending → Type 0
  Asks folder says old new ending =
      Reads world remaining folder says old.world new.world old.output new.output ending × (new.input ≡ old.input)

module _ {W D F P : Type 0} (world : WorldModel W D F P) (remaining : F → Option (List ℕ)) where
  -- files were replaced
  pub record Restyles (comments : Comments) (files : List (List ℕ)) (old new : Around W) (status : Status)
      : Type 0 where
    pub does : RestylesAll world remaining comments files Done old.world new.world status
    pub streams : LeavesStreams old new

  -- `format`
  abbrev pub FormatsAll : Formatting → List (List ℕ) → Around W → Around W → Ending → Type 0
  FormatsAll (formatting.Write style) [] old new ending =
      FormatsText style old.input new.input old.output new.output ending × (new.world ≡ old.world)
  FormatsAll (formatting.Write style) (file ∷ files) old new ending = FormatsFile world remaining style file old new ending
  FormatsAll (formatting.InPlace comments) files old new ending = EndsTold (Restyles comments files old new) ending
  FormatsAll (formatting.Check style) [] old new ending =
      EndsTold (ReportsOnAll world remaining (Name style) (codes "-" ∷ []) Done old new) ending
  FormatsAll (formatting.Check style) (file ∷ files) old new ending =
      EndsTold (ReportsOnAll world remaining (Name style) (file ∷ files) Done old new) ending

  -- `check`
  abbrev pub ChecksAll : Style → List (List ℕ) → Around W → Around W → Ending → Type 0
  ChecksAll style [] old new ending =
      ChecksText style old.input new.input old.output new.output ending × (new.world ≡ old.world)
  ChecksAll style (file ∷ files) old new ending =
      EndsTold (ReportsOnAll world remaining (Findings style) (file ∷ files) Done old new) ending

-- ---- all words

module _ {W D F P : Type 0} (world : WorldModel W D F P) (disk : DiskModel D) (remaining : F → Option (List ℕ)) where
  -- What is done for an invocation: with the world, the input and the output, from `old` to `new`, and how it ends.
  abbrev pub Does : Invocation → Around W → Around W → Ending → Type 0
  Does (Init folder) old new ending =
      Inits world disk folder.now old.world new.world ending × LeavesStreams old new
  Does (Import asked about reporting) old new ending = Imports world disk remaining about asked old new ending
  Does (Set target put about reporting) old new ending =
      Sets world disk remaining about target put old.world new.world old.input new.input ending × (new.output ≡ old.output)
  Does (Alter target alteration about) old new ending =
      Alters world disk about target alteration old.world new.world ending × LeavesStreams old new
  Does (Batch asked about reporting) old new ending = Batches world disk remaining about asked old new ending
  Does (Checkpoint folder) old new ending =
      ChangesInFolder world disk Changing folder.now [] change.Checkpoint old.world new.world ending
      × LeavesStreams old new
  Does (Run folder grouping) old new ending =
      RunsOnFolder world disk folder.now (grouping_of grouping) old new ending
  Does (Export folder name form) old new ending =
      ExportsFromFolder world disk form folder.now name.now old.world new.world old.output new.output ending
      × (new.input ≡ old.input)
  Does (ExportAll folder into form) old new ending =
      ExportsAll world remaining form folder.now into.now old.world new.world ending × LeavesStreams old new
  Does (Names folder at form) old new ending = Asks world remaining folder.now (SaysNames at form) old new ending
  Does (Get folder places absent form) old new ending =
      Asks world remaining folder.now
      (SaysValues places.at places.name.now (pointers_of places.pointers.items) absent form) old new ending
  Does (Exists folder place) old new ending =
      Asks world remaining folder.now (SaysPresence place.at place.name.now place.pointer.now) old new ending
  Does (Log folder commands form) old new ending =
      Logs world remaining folder.now commands form old.world new.world old.output new.output ending
      × (new.input ≡ old.input)
  Does (Diff folder name span) old new ending = Asks world remaining folder.now (SaysDiff name span) old new ending
  Does (DiffFiles first second) old new ending = DiffsFiles world remaining first.now second.now old new ending
  Does (Verify folder keep_dropped) old new ending =
      Verifies world remaining folder.now keep_dropped old.world new.world old.output new.output ending
      × (new.input ≡ old.input)
  Does (Salvage folder new_folder keep_dropped) old new ending =
      SalvagesTo world disk remaining folder.now keep_dropped new_folder.now old.world new.world old.output new.output
      ending
      × (new.input ≡ old.input)
  Does (Backup folder new_folder) old new ending =
      BacksUpStore world disk remaining folder.now new_folder.now old.world new.world ending × LeavesStreams old new
  Does (Format formatting files reporting) old new ending =
      FormatsAll world remaining formatting (map (λ file. file.now) files.items) old new ending
  Does (Check style files reporting) old new ending =
      ChecksAll world remaining style (map (λ file. file.now) files.items) old new ending

  -- the same, with the status that follows of how it ends
  pub record Performs (invocation : Invocation) (old new : Around W) (status : Status) : Type 0 where
    pub ending : Ending
    pub does : Does invocation old new ending
    pub is : status ≡ status_of_ending ending

  -- The same, with what is told, from `before` to `after`: the ending that is told is the one by which it ended.
  pub record RunsTo {E : Type 0} (hears : E → List ℕ → E → Type 0) (invocation : Invocation) (old new : Around W)
      (before after : E) (status : Status) : Type 0 where
    pub performs : Performs invocation old new status
    pub tells : Tells hears invocation before after performs.ending status

  -- ---- the process

  module _ {E : Type 0} (hears : E → List ℕ → E → Type 0) where
    -- What is done for words: the invocation that they ask for is performed; or help or what is wrong with them is
    -- written, and nothing else is done.
    abbrev pub DoesWords : Result Invocation Unparsed → Around W → Around W → E → E → Status → Type 0
    DoesWords (Ok invocation) old new before after status = RunsTo hears invocation old new before after status
    DoesWords (Err unparsed) old new before after status =
        ShowsUnparsed unparsed old.output new.output status × TellsUnparsed hears unparsed before after status
        × (new.world ≡ old.world) × (new.input ≡ old.input)

    -- the same, with the number of the status, with which the process ends
    pub record EndsProcess (words : Result Invocation Unparsed) (old new : Around W) (before after : E) (exit : ℕ)
        : Type 0 where
      pub status : Status
      pub does : DoesWords words old new before after status
      pub exits : exit ≡ code_of status
