-- What the words on texts do, and how an action is made ready of the text that it is given.
use Rattle.std.specs.Prelude.{◌≡◌, ◌≢◌, ◌⊎◌, ◌<◌, ◌≤◌, ℕ, Bool, true, false, ◌==◌, if◌then◌else◌, List, [], ◌∷◌, length, Option, Some, None}
use Rattle.std.specs.{Prelude.{Result, Ok, Err, IfOk, IfErr, IsErrAnd, OnOk, codes, string_bytes}, Str.Lossy.utf8_valid_len}
use Rattle.conf_tools.specs.Prelude.{chars, IsUtf8, ReplaceFault, command_of, delete_at, import_as, set_at, single, text_of, Comments}
use Rattle.conf_tools.specs.Prelude.{Style, Value, IsFirstFault, own_limits, config_limits, TooLong, NotUtf8, OutOfMemory, Tree, text}
use Rattle.conf_tools.specs.{Prelude.{IsRead, Refuses}, declared.{change_words.Meaning.Meaning, changes.Action.Action}}
use Rattle.conf_tools.specs.declared.{changes.Action.TheVariants.{Import, Perform, Copy, Rename, Edit}, file_texts.Restyled.Restyled}
use Rattle.conf_tools.specs.declared.{file_texts.Restyled.TheVariants.{Same, Changed}, file_words.Report.{Report, TheVariants.Findings}}
use Rattle.conf_tools.specs.declared.{file_words.Report.TheVariants.Name, outcome.Ending.{Ending, TheVariants.{Told, ToldFault}}}
use Rattle.conf_tools.specs.declared.{program.Status.{Status, TheVariants.{Done, Found, Device}}, texts.ToolFault.ToolFault}
use Rattle.conf_tools.specs.declared.{texts.ToolFault.TheVariants.{Input, OneValue, Output, Read}, edits.TreeEdit.TheVariants.Move}
use Rattle.conf_tools.specs.FileTexts.{ChecksFile, IsFileReport, IsNameLine, Lists, Restyles, StopsInFile, StopsRestyling}
use Rattle.conf_tools.specs.{Styles.IsStyled, Statuses.{status_of, worst}, Tools.{Checks, Formats, IsReport, IsTaken, Stops, Taken}}
use Rattle.{conf_tools.specs.Worlds.{Around, WorldModel}, conf_words.specs.declared.invocation.Root.{Root, TheVariants.{Any, Collection}}}
use Rattle.conf_words.specs.declared.invocation.{Value.TheVariants.{Text, Yaml, File}, Alteration.Alteration}
use Rattle.yaml_events.specs.declared.read_fault.ReadFault.{ReadFault}
use Rattle.conf_tools.specs.declared.change_words.Meaning.TheVariants as means
use Rattle.conf_files.specs.declared.replace.ReplaceFault.TheVariants as replacing
use Rattle.conf_words.specs.declared.invocation.Alteration.TheVariants as alteration
pub use Rattle.conf_tools.specs.Refused.{shown_name}

-- ---- statuses

-- the status of what was done with a text
abbrev pub status_after : {T : Type 0} → Result T ToolFault → Status
status_after (Ok done) = Done
status_after (Err fault) = status_of fault

-- the status of a report that has so many findings
abbrev pub status_of_count : ℕ → Status
status_of_count count = if count == 0 then Done else Found

-- the status of a report on whether a text would change
abbrev pub status_of_change : Bool → Status
status_of_change false = Done
status_of_change true = Found

-- how `format` of one text ends
abbrev pub ending_after_format : Result (Unit {0}) ToolFault → Ending
ending_after_format (Ok done) = Told Done
ending_after_format (Err fault) = ToldFault fault

-- how `check` of one text ends
abbrev pub ending_after_check : Result ℕ ToolFault → Ending
ending_after_check (Ok count) = Told (status_of_count count)
ending_after_check (Err fault) = ToldFault fault

-- ---- the text of a file, or of the input

module _ {W D F P : Type 0} (world : WorldModel W D F P) (remaining : F → Option (List ℕ)) where
  -- this was read of a file that was opened; or the file was not opened
  abbrev pub TakesOpened : Taken → Option F → Type 0
  TakesOpened read (Some file) = (left : Option (List ℕ)) × IsTaken read (remaining file) left
  TakesOpened read None = read ≡ Err Input

  -- the same of the file at a path
  pub record TakesFile (path : List ℕ) (read : Taken) (old new : W) : Type 0 where
    pub file : Option F
    pub opens : world.opened_file path old file new
    pub takes : TakesOpened read file

  -- What was read is the input for `-`, and else the file at the path.
  abbrev pub TakesText : List ℕ → Taken → W → W → Option (List ℕ) → Option (List ℕ) → Type 0
  TakesText path read old new given left =
      ((path ≡ codes "-") × (new ≡ old) × IsTaken read given left)
      ⊎ ((path ≢ codes "-") × (left ≡ given) × TakesFile path read old new)

-- ---- changes that are made ready

-- a tree that is a text
abbrev pub IsOneValue : Tree → Type 0
IsOneValue (text cs) = Unit {0}
IsOneValue tree = ⊥

-- a tree that is a mapping or a list
abbrev pub IsCollection : Tree → Type 0
IsCollection (text cs) = ⊥
IsCollection tree = Unit {0}

-- the bytes are left to the store to read: any, or those that it refuses
abbrev pub LeavesToStore : Root → List ℕ → Type 0
LeavesToStore Any bytes = Unit {0}
LeavesToStore Collection bytes = (fault : ReadFault) × (fault ≢ OutOfMemory) × Refuses bytes config_limits fault

-- the bytes give a tree of which this holds
abbrev pub GivesSuch : List ℕ → (Tree → Type 0) → Type 0
GivesSuch bytes such = (tree : Tree) × IsRead bytes config_limits tree × such tree

-- The action imports these bytes under a name, or the mapping or the list that they give; or they are one value alone,
-- where that is not to be imported; or memory ran out.
abbrev pub IsImport : Root → List ℕ → List ℕ → Result Action ToolFault → Type 0
IsImport root name bytes (Ok (Import kept imported)) =
    (text_of kept ≡ chars name) × (imported.now ≡ bytes) × LeavesToStore root bytes
IsImport Collection name bytes (Ok (Perform command)) = GivesSuch bytes
    (λ tree. IsCollection tree × (command_of command ≡ single (import_as (chars name) tree)))
IsImport Collection name bytes (Err OneValue) = GivesSuch bytes IsOneValue
IsImport root name bytes (Ok action) = ⊥
IsImport root name bytes (Err fault) = fault ≡ Read OutOfMemory

-- the action sets a tree at a pointer of the configuration under a name
abbrev pub SetsAt : List ℕ → List ℕ → Tree → Action → Type 0
SetsAt name pointer tree (Perform command) =
    command_of command ≡ single (set_at (chars name) (chars pointer) tree)
SetsAt name pointer tree action = ⊥

-- why a text can't be a value: it is too long in the one style, or memory ran out
abbrev pub RefusesText : List ℕ → ToolFault → Type 0
RefusesText cs (Read fault) = IsFirstFault own_limits (text cs) fault
RefusesText cs fault = ⊥

-- the action sets a text
abbrev pub SetsText : List ℕ → List ℕ → List ℕ → Result Action ToolFault → Type 0
SetsText name pointer cs (Ok action) = SetsAt name pointer (text cs) action
SetsText name pointer cs (Err fault) = RefusesText cs fault

-- why bytes give no value
abbrev pub RefusesBytes : List ℕ → ToolFault → Type 0
RefusesBytes bytes (Read fault) = Refuses bytes config_limits fault
RefusesBytes bytes fault = ⊥

-- the action sets what these bytes give
abbrev pub SetsBytes : List ℕ → List ℕ → List ℕ → Result Action ToolFault → Type 0
SetsBytes name pointer bytes (Ok action) =
    (tree : Tree) × IsRead bytes config_limits tree × SetsAt name pointer tree action
SetsBytes name pointer bytes (Err fault) = RefusesBytes bytes fault

-- why bytes can't be a text: there are too many, or they are not UTF-8
abbrev pub IsNoText : List ℕ → ToolFault → Type 0
IsNoText bytes (Read TooLong) = config_limits.bytes < length bytes
IsNoText bytes (Read (NotUtf8 at)) =
    (length bytes ≤ config_limits.bytes) × (IsUtf8 bytes → ⊥) × (at ≡ utf8_valid_len bytes)
IsNoText bytes fault = ⊥

-- the action sets the text that these bytes are; or they are none
abbrev pub SetsPlain : List ℕ → List ℕ → List ℕ → Result Action ToolFault → Type 0
SetsPlain name pointer bytes action =
    (IsUtf8 bytes × (length bytes ≤ config_limits.bytes) × SetsText name pointer (chars bytes) action)
    ⊎ IsErrAnd action (IsNoText bytes)

-- the action sets what the bytes are
abbrev pub SetsMeant : Meaning → List ℕ → List ℕ → List ℕ → Result Action ToolFault → Type 0
SetsMeant means.Text name pointer bytes action = SetsPlain name pointer bytes action
SetsMeant means.Yaml name pointer bytes action = SetsBytes name pointer bytes action

-- the same of bytes that were read; or they were not read
abbrev pub SetsRead : Meaning → List ℕ → List ℕ → Taken → Result Action ToolFault → Type 0
SetsRead meaning name pointer (Ok bytes) action = SetsMeant meaning name pointer bytes.items action
SetsRead meaning name pointer (Err fault) action = action ≡ Err fault

-- the action sets what the input gives as a text of YAML
pub record SetsInput (name pointer : List ℕ) (given left : Option (List ℕ)) (action : Result Action ToolFault)
    : Type 0 where
  pub read : Taken
  pub takes : IsTaken read given left
  pub sets : SetsRead means.Yaml name pointer read action

-- the action sets what a word gives as a text of YAML, or the input for `-`
abbrev pub SetsWord : List ℕ → List ℕ → List ℕ → Result Action ToolFault → Option (List ℕ) → Option (List ℕ) → Type 0
SetsWord name pointer word action given left =
    ((word ≢ codes "-") × (left ≡ given) × SetsBytes name pointer word action)
    ⊎ ((word ≡ codes "-") × SetsInput name pointer given left action)

module _ {W D F P : Type 0} (world : WorldModel W D F P) (remaining : F → Option (List ℕ)) where
  -- The action sets the text of the file at a path, or of the input for `-`.
  pub record SetsFile (name pointer path : List ℕ) (action : Result Action ToolFault) (old new : W)
      (given left : Option (List ℕ)) : Type 0 where
    pub read : Taken
    pub takes : TakesText world remaining path read old new given left
    pub sets : SetsRead means.Text name pointer read action

  -- The action sets the value that the words give, or a file, or the input for `-`.
  abbrev pub IsSet : List ℕ → List ℕ → Value → Result Action ToolFault → W → W → Option (List ℕ) → Option (List ℕ)
      → Type 0
  IsSet name pointer (Text word) action old new given left =
      (new ≡ old) × (left ≡ given) × SetsText name pointer (chars word.now) action
  IsSet name pointer (Yaml word) action old new given left =
      (new ≡ old) × SetsWord name pointer word.now action given left
  IsSet name pointer (File path) action old new given left =
      SetsFile name pointer path.now action old new given left

-- the action removes what is at a pointer; or memory ran out
abbrev pub IsDelete : List ℕ → List ℕ → Result Action ToolFault → Type 0
IsDelete name pointer (Ok (Perform command)) =
    command_of command ≡ single (delete_at (chars name) (chars pointer))
IsDelete name pointer (Ok action) = ⊥
IsDelete name pointer (Err fault) = fault ≡ Read OutOfMemory

-- the action copies what is under a name to another one; or memory ran out
abbrev pub IsCopy : List ℕ → List ℕ → Result Action ToolFault → Type 0
IsCopy name to (Ok (Copy kept other)) = (text_of kept ≡ chars name) × (text_of other ≡ chars to)
IsCopy name to (Ok action) = ⊥
IsCopy name to (Err fault) = fault ≡ Read OutOfMemory

-- the action gives what is under a name another one; or memory ran out
abbrev pub IsRename : List ℕ → List ℕ → Result Action ToolFault → Type 0
IsRename name to (Ok (Rename kept other)) = (text_of kept ≡ chars name) × (text_of other ≡ chars to)
IsRename name to (Ok action) = ⊥
IsRename name to (Err fault) = fault ≡ Read OutOfMemory

-- the action moves what is at a pointer of the configuration under a name to another pointer; or memory ran out
abbrev pub IsMove : List ℕ → List ℕ → List ℕ → Result Action ToolFault → Type 0
IsMove name from to (Ok (Edit kept (Move first last))) =
    (text_of kept ≡ chars name) × (text_of first ≡ chars from) × (text_of last ≡ chars to)
IsMove name from to (Ok action) = ⊥
IsMove name from to (Err fault) = fault ≡ Read OutOfMemory

-- the action alters what is under a name, at a pointer; or memory ran out
abbrev pub IsAlteration : Alteration → List ℕ → List ℕ → Result Action ToolFault → Type 0
IsAlteration alteration.Delete name pointer = IsDelete name pointer
IsAlteration (alteration.Copy from) name pointer = IsCopy from.now name
IsAlteration (alteration.Rename from) name pointer = IsRename from.now name
IsAlteration (alteration.Move from) name pointer = IsMove name from.now pointer

-- ---- texts in a style, and findings

-- the text was written in a style, or why not
pub record SaysStyled (style : Style) (result : Result (Unit {0}) ToolFault) (bytes : List ℕ) (held written : Option (List ℕ))
    : Type 0 where
  pub done : OnOk result (Formats style bytes held written)
  pub stops : IfErr result (Stops (IsStyled style bytes) bytes held written)

-- the same of a text that was read; where none was, nothing was written
abbrev pub FormatsRead : Style → Taken → Option (List ℕ) → Option (List ℕ) → Ending → Type 0
FormatsRead style (Ok bytes) held written ending =
    (result : Result (Unit {0}) ToolFault) × SaysStyled style result bytes.items held written
    × (ending ≡ ending_after_format result)
FormatsRead style (Err fault) held written ending = (written ≡ held) × (ending ≡ ToldFault fault)

-- the findings of the text were written, or why not
pub record SaysChecked (style : Style) (result : Result ℕ ToolFault) (bytes : List ℕ) (held written : Option (List ℕ))
    : Type 0 where
  pub done : IfOk result (Checks style bytes held written)
  pub stops : IfErr result (Stops (IsReport style bytes) bytes held written)

-- the same of a text that was read
abbrev pub ChecksRead : Style → Taken → Option (List ℕ) → Option (List ℕ) → Ending → Type 0
ChecksRead style (Ok bytes) held written ending =
    (result : Result ℕ ToolFault) × SaysChecked style result bytes.items held written
    × (ending ≡ ending_after_check result)
ChecksRead style (Err fault) held written ending = (written ≡ held) × (ending ≡ ToldFault fault)

-- what a report on a file says, whose name is shown so
abbrev pub SaysReport : Report → List ℕ → Result Status ToolFault → List ℕ → Option (List ℕ) → Option (List ℕ) → Type 0
SaysReport (Findings style) name (Ok status) bytes held written =
    (count : ℕ) × ChecksFile style name bytes held written count × (status ≡ status_of_count count)
SaysReport (Findings style) name (Err fault) bytes held written =
    StopsInFile (IsFileReport style name bytes) bytes held written fault
SaysReport (Name style) name (Ok status) bytes held written =
    (changes : Bool) × Lists style name bytes held written changes × (status ≡ status_of_change changes)
SaysReport (Name style) name (Err fault) bytes held written =
    Stops (IsNameLine style name bytes) bytes held written fault

-- the same of a text that was read
abbrev pub ReportsOnRead : Report → List ℕ → Taken → Result Status ToolFault → Option (List ℕ) → Option (List ℕ) → Type 0
ReportsOnRead report name (Ok bytes) result held written = SaysReport report name result bytes.items held written
ReportsOnRead report name (Err fault) result held written = (result ≡ Err fault) × (written ≡ held)

-- whether the writer failed, so that no other file is tried
abbrev pub stops_all : Result Status ToolFault → Bool
stops_all (Err Output) = true
stops_all result = false

-- the status of one report
abbrev pub status_of_report : Result Status ToolFault → Status
status_of_report (Ok status) = status
status_of_report (Err fault) = status_of fault

-- what holds if that is so, and what else
abbrev pub IfSo : Bool → Type 0 → Type 0 → Type 0
IfSo true first second = first
IfSo false first second = second

module _ {W D F P : Type 0} (world : WorldModel W D F P) (remaining : F → Option (List ℕ)) where
  -- the text of the file, or the input for `-`, was written in a style
  pub record FormatsFile (style : Style) (path : List ℕ) (old new : Around W) (ending : Ending) : Type 0 where
    pub read : Taken
    pub takes : TakesText world remaining path read old.world new.world old.input new.input
    pub writes : FormatsRead style read old.output new.output ending

  -- a report on one file, or on the input for `-`
  pub record ReportsOn (report : Report) (path : List ℕ) (old new : Around W) (result : Result Status ToolFault)
      : Type 0 where
    pub read : Taken
    pub takes : TakesText world remaining path read old.world new.world old.input new.input
    pub says : ReportsOnRead report (shown_name path) read result old.output new.output

  -- A report on each file in turn, where this is the worst status before them. After one that the writer failed to take
  -- there is none.
  abbrev pub ReportsOnAll : Report → List (List ℕ) → Status → Around W → Around W → Status → Type 0
  ReportsOnAll report [] so_far old new status = (new ≡ old) × (status ≡ so_far)
  ReportsOnAll report (path ∷ paths) so_far old new status =
      (now : Around W) × (result : Result Status ToolFault) × ReportsOn report path old now result
      × IfSo (stops_all result) ((new ≡ now) × (status ≡ Device))
      (ReportsOnAll report paths (worst so_far (status_of_report result)) now new status)

-- ---- files that are replaced

-- the fault of a file that was not opened to be replaced
abbrev pub unopened : ReplaceFault → ToolFault
unopened replacing.Device = Input
unopened replacing.OutOfMemory = Read OutOfMemory

-- what came of a replacement
abbrev pub replaced_or_not : Result (Unit {0}) ReplaceFault → Result (Unit {0}) ToolFault
replaced_or_not (Ok done) = Ok tt
replaced_or_not (Err replacing.Device) = Err Output
replaced_or_not (Err replacing.OutOfMemory) = Err (Read OutOfMemory)

module _ {W D F P : Type 0} (world : WorldModel W D F P) where
  -- a text that is another one in the style is put in the place of its file
  abbrev pub ReplacesAt : P → Result Restyled ToolFault → W → W → Result (Unit {0}) ToolFault → Type 0
  ReplacesAt place (Ok Same) old new result = (new ≡ old) × (result ≡ Ok tt)
  ReplacesAt place (Ok (Changed styled)) old new result =
      (ended : Result (Unit {0}) ReplaceFault) × world.replaced place (string_bytes styled) old ended new
      × (result ≡ replaced_or_not ended)
  ReplacesAt place (Err fault) old new result = (new ≡ old) × (result ≡ Err fault)

-- what may take the place of a text, or why there is nothing
pub record SaysRestyled (comments : Comments) (bytes : List ℕ) (restyled : Result Restyled ToolFault) : Type 0 where
  pub done : IfOk restyled (Restyles comments bytes)
  pub stops : IfErr restyled (StopsRestyling comments bytes)

module _ {W D F P : Type 0} (world : WorldModel W D F P) where
  -- What was made of a file of which this was read. If it has comments, it was replaced only where these are dropped or
  -- kept.
  abbrev pub ReplacesRead : Comments → P → Taken → W → W → Status → Type 0
  ReplacesRead comments place (Ok bytes) old new status =
      (restyled : Result Restyled ToolFault) × SaysRestyled comments bytes.items restyled
      × (result : Result (Unit {0}) ToolFault) × ReplacesAt world place restyled old new result
      × (status ≡ status_after result)
  ReplacesRead comments place (Err fault) old new status = (new ≡ old) × (status ≡ status_of fault)

module _ {W D F P : Type 0} (world : WorldModel W D F P) (remaining : F → Option (List ℕ)) where
  -- what was made of a file that was opened to be replaced
  abbrev pub RestylesOpened : Comments → Result (F × P) ReplaceFault → W → W → Status → Type 0
  RestylesOpened comments (Err fault) old new status = (new ≡ old) × (status ≡ status_of (unopened fault))
  RestylesOpened comments (Ok (file, place)) old new status =
      (read : Taken) × (left : Option (List ℕ)) × IsTaken read (remaining file) left
      × ReplacesRead world comments place read old new status

  -- one file, which is replaced if its text is another one in the style
  pub record RestylesFile (comments : Comments) (path : List ℕ) (old new : W) (status : Status) : Type 0 where
    pub found : Result (F × P) ReplaceFault
    pub seen : W
    pub opens : world.opened_to_replace path old found seen
    pub does : RestylesOpened comments found seen new status

  -- each file in turn, where this is the worst status before them
  abbrev pub RestylesAll : Comments → List (List ℕ) → Status → W → W → Status → Type 0
  RestylesAll comments [] so_far old new status = (new ≡ old) × (status ≡ so_far)
  RestylesAll comments (path ∷ paths) so_far old new status =
      (now : W) × (of_file : Status) × RestylesFile comments path old now of_file
      × RestylesAll comments paths (worst so_far of_file) now new status
