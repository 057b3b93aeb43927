-- What a run tells of what it did: of each of several files, of what opening dropped, and of the rest of an input.
use Rattle.std.specs.Prelude.{◌≡◌, ◌⊎◌, ℕ, List, [], ◌∷◌, map, Option, Some, Result, Ok, Err, codes}
use Rattle.conf_tools.specs.Prelude.{Check, Comments, DiskModel, Format, HasComment, Invocation, ReplaceFault, Reporting, Run, Style, Tally}
use Rattle.conf_tools.specs.{Prelude.{Unparsed, store_file, store_note}, Dropped.TellsDroppedOf, Endings.EndsTold, Outcomes.TellsEnding}
use Rattle.conf_tools.specs.{Outcomes.{TellsUnperformed, status_of_ending}, Performs.grouping_of, Refused.{IsReporting, TellsFaultOf}}
use Rattle.conf_tools.specs.{Refused.blamed, Sentences.HasSentence, Statuses.{code_of, worst}, Stores.WasOpened, StoreWords.CannotRun}
use Rattle.conf_tools.specs.{StoreWords.RunsIn, Tools.Taken, Worlds.{Around, WorldModel}, TextWords.{IfSo, ReplacesRead, ReportsOn}}
use Rattle.conf_tools.specs.TextWords.{RestylesFile, RestylesOpened, status_of_report, stops_all, unopened}
use Rattle.conf_tools.specs.declared.{outcome.Ending.Ending, file_words.Report.{Report, TheVariants.{Findings, Name}}}
use Rattle.conf_tools.specs.declared.{program.Status.{Status, TheVariants.{Done, Found, Device}}, stores.Grouping.Grouping, tail.Tail.Tail}
use Rattle.conf_tools.specs.declared.texts.ToolFault.{ToolFault, TheVariants.Comments as HasComments}
use Rattle.conf_words.specs.declared.invocation.{Formatting.Formatting, Style.TheVariants.Bare}
use Rattle.yaml_docs.specs.declared.place.Place.{Place}
use Rattle.conf_words.specs.declared.invocation.Formatting.TheVariants as formatting

-- Where the status is not that of a device, nothing is told. Else why the device failed may be.
abbrev pub TellsCause : {E : Type 0} → Status → E → E → Type 0
TellsCause status old new = (status ≡ Device) ⊎ (new ≡ old)

-- ---- reports on files

module _ {E : Type 0} (hears : E → List ℕ → E → Type 0) (reporting : Reporting) where
  -- at most where a text has its first comment was told, if it has one
  abbrev pub TellsFirstComment : List ℕ → List ℕ → E → E → Type 0
  TellsFirstComment path bytes old new =
      (new ≡ old)
      ⊎ ((first : Place) × HasComment bytes × TellsFaultOf hears reporting (Some path) (HasComments first) old new)

  -- Of a text that a report was written on, nothing is told. But one that would change, and lose its comments, may be
  -- told to have them.
  abbrev pub TellsNote : Report → List ℕ → List ℕ → Status → E → E → Type 0
  TellsNote (Name Bare) path bytes Found old new = TellsFirstComment path bytes old new
  TellsNote report path bytes status old new = new ≡ old

  -- the same of a text that was read, or its fault was told
  abbrev pub TellsReportOn : Report → List ℕ → List ℕ → Result Status ToolFault → E → E → Type 0
  TellsReportOn report path bytes (Ok status) old new = TellsNote report path bytes status old new
  TellsReportOn report path bytes (Err fault) old new =
      TellsFaultOf hears reporting (blamed (Some path) fault) fault old new

  -- where none was read, that was told
  abbrev pub TellsReportOnRead : Report → List ℕ → Taken → Result Status ToolFault → E → E → Type 0
  TellsReportOnRead report path (Ok bytes) result old new = TellsReportOn report path bytes.items result old new
  TellsReportOnRead report path (Err fault) result old new = TellsFaultOf hears reporting (Some path) fault old new

module _ {W D F P E : Type 0} (world : WorldModel W D F P) (remaining : F → Option (List ℕ))
    (hears : E → List ℕ → E → Type 0) (reporting : Reporting) where
  -- a report on one file, and what was told of it
  pub record TellsReport (report : Report) (path : List ℕ) (old new : Around W) (before after : E)
      (result : Result Status ToolFault) : Type 0 where
    pub does : ReportsOn world remaining report path old new result
    pub told : E
    pub tells : TellsReportOnRead hears reporting report path does.read result before told
    pub cause : TellsCause (status_of_report result) told after

  -- The same of each file in turn, where this is the worst status before them. Nothing else is told. After one that the
  -- writer failed to take there is none.
  abbrev pub TellsReports : Report → List (List ℕ) → Status → Around W → Around W → E → E → Status → Type 0
  TellsReports report [] so_far old new before after status = (new ≡ old) × (after ≡ before) × (status ≡ so_far)
  TellsReports report (path ∷ paths) so_far old new before after status =
      (now : Around W) × (told : E) × (result : Result Status ToolFault)
      × TellsReport report path old now before told result
      × IfSo (stops_all result) ((new ≡ now) × (after ≡ told) × (status ≡ Device))
      (TellsReports report paths (worst so_far (status_of_report result)) now new told after status)

-- ---- files that are replaced

module _ {W D F P : Type 0} (world : WorldModel W D F P) where
  -- how the replacing of a file of which this was read ended
  abbrev pub ended_of_read : (comments : Comments) (place : P) (read : Taken) (old new : W) (status : Status)
      → ReplacesRead world comments place read old new status → Result (Unit {0}) ToolFault
  ended_of_read comments place (Ok bytes) old new status (restyled, says, ended, replaces, is) = ended
  ended_of_read comments place (Err fault) old new status does = Err fault

module _ {W D F P : Type 0} (world : WorldModel W D F P) (remaining : F → Option (List ℕ)) where
  -- the same of one that was opened, or was not
  abbrev pub ended_of_opened : (comments : Comments) (found : Result (F × P) ReplaceFault) (old new : W) (status : Status)
      → RestylesOpened world remaining comments found old new status → Result (Unit {0}) ToolFault
  ended_of_opened comments (Err fault) old new status does = Err (unopened fault)
  ended_of_opened comments (Ok (file, place)) old new status (read, left, taken, replaces) =
      ended_of_read world comments place read old new status replaces

module _ {E : Type 0} (hears : E → List ℕ → E → Type 0) (reporting : Reporting) where
  -- of a file that was replaced, or is as it would be, nothing is told, and of another one its fault
  abbrev pub TellsEnded : List ℕ → Result (Unit {0}) ToolFault → E → E → Type 0
  TellsEnded path (Ok done) old new = new ≡ old
  TellsEnded path (Err fault) old new = TellsFaultOf hears reporting (Some path) fault old new

module _ {W D F P E : Type 0} (world : WorldModel W D F P) (hears : E → List ℕ → E → Type 0) (reporting : Reporting) where
  -- what was made of a file of which this was read, and what was told of it
  abbrev pub TellsReplaced : Comments → List ℕ → P → Taken → W → W → E → E → Status → Type 0
  TellsReplaced comments path place read old new before after status =
      (does : ReplacesRead world comments place read old new status)
      × TellsEnded hears reporting path (ended_of_read world comments place read old new status does) before after

module _ {W D F P E : Type 0} (world : WorldModel W D F P) (remaining : F → Option (List ℕ))
    (hears : E → List ℕ → E → Type 0) (reporting : Reporting) where
  -- the same of the file at a path
  abbrev pub TellsOpened : Comments → List ℕ → W → W → E → E → Status → Type 0
  TellsOpened comments path old new before after status =
      (does : RestylesFile world remaining comments path old new status)
      × TellsEnded hears reporting path
      (ended_of_opened world remaining comments does.found does.seen new status does.does) before after

  -- the same, where why a device failed may be told, too
  pub record TellsRestyled (comments : Comments) (path : List ℕ) (old new : W) (before after : E) (status : Status)
      : Type 0 where
    pub told : E
    pub tells : TellsOpened comments path old new before told status
    pub cause : TellsCause status told after

  -- The same of each file in turn, where this is the worst status before them. Nothing else is told.
  abbrev pub TellsRestyledAll : Comments → List (List ℕ) → Status → W → W → E → E → Status → Type 0
  TellsRestyledAll comments [] so_far old new before after status = (new ≡ old) × (after ≡ before) × (status ≡ so_far)
  TellsRestyledAll comments (path ∷ paths) so_far old new before after status =
      (now : W) × (told : E) × (of_file : Status) × TellsRestyled comments path old now before told of_file
      × TellsRestyledAll comments paths (worst so_far of_file) now new told after status

  -- `format` of files that are replaced, or named where they would change
  abbrev pub TellsFormat : Formatting → List (List ℕ) → Around W → Around W → E → E → Ending → Type 0
  TellsFormat (formatting.Write style) paths old new before after ending = Unit {0}
  TellsFormat (formatting.InPlace comments) paths old new before after ending =
      EndsTold (TellsRestyledAll comments paths Done old.world new.world before after) ending
  TellsFormat (formatting.Check style) [] old new before after ending =
      EndsTold (TellsReports world remaining hears reporting (Name style) (codes "-" ∷ []) Done old new before after) ending
  TellsFormat (formatting.Check style) (path ∷ paths) old new before after ending =
      EndsTold (TellsReports world remaining hears reporting (Name style) (path ∷ paths) Done old new before after) ending

  -- `check` of files
  abbrev pub TellsCheck : Style → List (List ℕ) → Around W → Around W → E → E → Ending → Type 0
  TellsCheck style [] old new before after ending = Unit {0}
  TellsCheck style (path ∷ paths) old new before after ending =
      EndsTold (TellsReports world remaining hears reporting (Findings style) (path ∷ paths) Done old new before after) ending

-- ---- a session

module _ {W D F P E : Type 0} (world : WorldModel W D F P) (disk : DiskModel D) (hears : E → List ℕ → E → Type 0) where
  -- A session ran on the disk of a folder. What opening dropped of its file was told, where the store was opened, and
  -- then what was not performed of an input with this tail. Nothing else was told.
  pub record TellsRunIn (folder : List ℕ) (grouping : Grouping) (tail : Tail) (old new : Around W) (before after : E)
      (ending : Ending) : Type 0 where
    pub does : RunsIn world disk folder grouping old new ending
    pub opened : E
    pub dropped : disk.honest → WasOpened does.result
        → TellsDroppedOf hears (store_note disk does.first) (store_file disk does.first) before opened
    pub unopened : WasOpened does.result ⊎ (opened ≡ before)
    pub rest : TellsUnperformed hears tail does.result opened after

  -- the disk was not handed out, and nothing was told yet
  pub record CannotTellRun (folder : List ℕ) (old new : Around W) (before after : E) (ending : Ending) : Type 0 where
    pub cannot : CannotRun world disk folder old new ending
    pub untold : after ≡ before

  -- `run`
  abbrev pub TellsRun : List ℕ → Grouping → Tail → Around W → Around W → E → E → Ending → Type 0
  TellsRun folder grouping tail old new before after ending =
      CannotTellRun folder old new before after ending
      ⊎ TellsRunIn folder grouping tail old new before after ending

-- ---- all words

module _ {W D F P E : Type 0} (world : WorldModel W D F P) (disk : DiskModel D) (remaining : F → Option (List ℕ))
    (hears : E → List ℕ → E → Type 0) where
  -- What a word tells of what it did, which ended so: of each file, where there are several; and of a session, what
  -- opening dropped and what was not performed of its input, whose tail is this one.
  abbrev pub TellsOf : Invocation → Tail → Around W → Around W → E → E → Ending → Type 0
  TellsOf (Run folder grouping) tail old new before after ending =
      TellsRun world disk hears folder.now (grouping_of grouping) tail old new before after ending
  TellsOf (Format formatting files asked) tail old new before after ending =
      (reporting : Reporting) × IsReporting asked reporting
      × TellsFormat world remaining hears reporting formatting (map (λ file. file.now) files.items) old new before after
      ending
  TellsOf (Check style files asked) tail old new before after ending =
      (reporting : Reporting) × IsReporting asked reporting
      × TellsCheck world remaining hears reporting style (map (λ file. file.now) files.items) old new before after ending
  TellsOf word tail old new before after ending = Unit {0}

  -- What a run tells whose process ends with this number: first what its word tells, and then how the word ended. More
  -- follows only where a sentence says what was looked for, or where a device failed, of which it is said why.
  pub record TellsOfRun (word : Invocation) (tail : Tail) (old new : Around W) (before after : E) (exit : ℕ) : Type 0 where
    pub ending : Ending
    pub said : E
    pub says : TellsOf word tail old new before said ending
    pub told : E
    pub tells : TellsEnding hears ending said told
    pub cause : HasSentence ending ⊎ TellsCause (status_of_ending ending) told after
    pub exits : exit ≡ code_of (status_of_ending ending)

  -- the same of words, which may ask for nothing
  abbrev pub TellsOfWords : Result Invocation Unparsed → Tail → Around W → Around W → E → E → ℕ → Type 0
  TellsOfWords (Ok word) tail old new before after exit = TellsOfRun word tail old new before after exit
  TellsOfWords (Err unparsed) tail old new before after exit = Unit {0}
