-- What the words of each subcommand ask for, by what they give its arguments.
use Rattle.std.specs.Prelude.{◌≡◌, ◌≢◌, ◌≤◌, ℕ, ◌==◌, ◌&&◌, ◌||◌, not, nat_lt, Bool, true, false, if◌then◌else◌, List, [], ◌∷◌, length, map}
use Rattle.std.specs.{Prelude.{All, Option, Some, None, is_some, option_map, unwrap_or, Result, Ok, Err, codes}, Option.option_or}
use Rattle.std.specs.{List.list_any, Borrow.Bor, Str.bytes_eq}
use Rattle.{command_line.specs.Matches.{Given, has, number_in, text_of, texts_of}, conf_words.specs.declared.invocation.Comments.Comments}
use Rattle.conf_words.specs.declared.invocation.{Conditions.Conditions, Formatting.Formatting, Grouping.Grouping, Invocation.Invocation}
use Rattle.conf_words.specs.declared.invocation.Invocation.TheVariants.{Init, Import, Set, Alter, Batch, Checkpoint, Run, Export, ExportAll}
use Rattle.conf_words.specs.declared.invocation.Invocation.TheVariants.{Names, Get, Exists, Log, Diff, DiffFiles, Verify, Salvage, Backup}
use Rattle.conf_words.specs.declared.invocation.{Invocation.TheVariants.{Format, Check}, LogForm.LogForm, MissingStore.MissingStore}
use Rattle.conf_words.specs.declared.invocation.{MissingValue.MissingValue, NamesForm.NamesForm, Placing.Placing, Reporting.Reporting}
use Rattle.conf_words.specs.declared.invocation.{Root.Root, Style.Style, TreeForm.TreeForm, Value.Value, ValueForm.ValueForm, Wanted.Wanted}
use Rattle.conf_words.specs.{declared.{refusal.Unasked.Unasked, subcommand.Subcommand.Subcommand}, Abouts.{IsAboutIn, IsUnaskedFor}}
use Rattle.conf_words.specs.Abouts.{about_is_wrong}
use Rattle.conf_words.specs.declared.invocation.Alteration.TheVariants as alteration
use Rattle.conf_words.specs.declared.invocation.Comments.TheVariants as comments
use Rattle.conf_words.specs.declared.invocation.Formatting.TheVariants as formatting
use Rattle.conf_words.specs.declared.invocation.Grouping.TheVariants as grouping
use Rattle.conf_words.specs.declared.invocation.LogForm.TheVariants as log_form
use Rattle.conf_words.specs.declared.invocation.MissingStore.TheVariants as store
use Rattle.conf_words.specs.declared.invocation.MissingValue.TheVariants as missing_value
use Rattle.conf_words.specs.declared.invocation.NamesForm.TheVariants as names_form
use Rattle.conf_words.specs.declared.invocation.Placing.TheVariants as placing
use Rattle.conf_words.specs.declared.invocation.RawEnd.TheVariants as raw_end
use Rattle.conf_words.specs.declared.invocation.Reporting.TheVariants as reporting
use Rattle.conf_words.specs.declared.invocation.Root.TheVariants as root
use Rattle.conf_words.specs.declared.invocation.Style.TheVariants as style
use Rattle.conf_words.specs.declared.invocation.TreeForm.TheVariants as tree_form
use Rattle.conf_words.specs.declared.invocation.Value.TheVariants as value
use Rattle.conf_words.specs.declared.invocation.ValueForm.TheVariants as value_form
use Rattle.conf_words.specs.declared.invocation.Wanted.TheVariants as wanted
use Rattle.conf_words.specs.declared.subcommand.Subcommand.TheVariants as word

abbrev pub Word : Type 0
Word = Bor (List ℕ)

-- ---- parts of what is asked for

-- a word is the text of an argument; it is that text, or another one where there is none; the same of no word
abbrev pub Is : Given → List ℕ → Word → Type 0
Is given name w = text_of given name ≡ Some w.now

abbrev pub IsOr : List ℕ → Given → List ℕ → Word → Type 0
IsOr other given name w = w.now ≡ unwrap_or (text_of given name) other

abbrev pub IsMaybe : Given → List ℕ → Option Word → Type 0
IsMaybe given name w = option_map (λ s. s.now) w ≡ text_of given name

-- no text of these is there
abbrev pub lacks : Given → List (List ℕ) → Bool
lacks given names = list_any (λ name. not (is_some (text_of given name))) names

abbrev pub reporting_in : Given → Reporting
reporting_in given = if has given (codes "explain") then reporting.Explained else reporting.Brief

-- what has to be at the place, where nothing has to be if this is true
abbrev pub IsWantedBy : Option (List ℕ) → Bool → Wanted → Type 0
IsWantedBy text nothing (wanted.Text w) = text ≡ Some w.now
IsWantedBy text nothing wanted.Nothing = (text ≡ None) × (nothing ≡ true)
IsWantedBy text nothing wanted.Anything = (text ≡ None) × (nothing ≡ false)

abbrev pub IsWanted : Given → Wanted → Type 0
IsWanted given w = IsWantedBy (text_of given (codes "if-value")) (has given (codes "if-absent")) w

abbrev pub AreConditions : Given → Conditions → Type 0
AreConditions given conditions =
    IsWanted given conditions.place × (conditions.count ≡ number_in given (codes "if-count"))

-- those of `copy`: nothing has to be under the other name, unless the words say otherwise
abbrev pub AreCopyConditions : Given → Conditions → Type 0
AreCopyConditions given conditions =
    IsWantedBy (text_of given (codes "if-value"))
    (has given (codes "if-absent") || not (has given (codes "replace"))) conditions.place
    × (conditions.count ≡ number_in given (codes "if-count"))

abbrev pub root_in : Given → Root
root_in given = if has given (codes "any-root") then root.Any else root.Collection

abbrev pub missing_in : Given → MissingStore
missing_in given = if has given (codes "init") then store.Made else store.Refused

-- the value of `set`: a file's, or a text, which may be YAML
abbrev pub IsValueBy : Option (List ℕ) → Bool → Option (List ℕ) → Option Value → Type 0
IsValueBy file yaml text (Some (value.File w)) = file ≡ Some w.now
IsValueBy file yaml text (Some (value.Yaml w)) = (file ≡ None) × (yaml ≡ true) × (text ≡ Some w.now)
IsValueBy file yaml text (Some (value.Text w)) = (file ≡ None) × (yaml ≡ false) × (text ≡ Some w.now)
IsValueBy file yaml text None = (file ≡ None) × (text ≡ None)

abbrev pub IsValue : Given → Option Value → Type 0
IsValue given v =
    IsValueBy (text_of given (codes "file")) (has given (codes "yaml")) (text_of given (codes "VALUE")) v

-- how `set` puts its value at its place
abbrev pub placing_in : Given → Placing
placing_in given =
    if has given (codes "insert") then placing.BeforeElement
    else (if has given (codes "parents") then placing.WithParents else placing.AtPlace)

-- the pointer of `set` or `delete` is empty, and the words don't say `--whole`, or the other way round
abbrev pub differs : Bool → Bool → Bool
differs true whole = not whole
differs false whole = whole

abbrev pub pointer_is_wrong_by : Option (List ℕ) → Bool → Bool
pointer_is_wrong_by None whole = false
pointer_is_wrong_by (Some pointer) whole = differs (length pointer == 0) whole

abbrev pub pointer_is_wrong : Given → Bool
pointer_is_wrong given = pointer_is_wrong_by (text_of given (codes "POINTER")) (has given (codes "whole"))

abbrev pub grouping_in : Given → Grouping
grouping_in given =
    if has given (codes "group") then grouping.Grouped (number_in given (codes "checkpoint-after")) else grouping.Single

abbrev pub tree_form_in : Given → TreeForm
tree_form_in given =
    if has given (codes "json") then tree_form.Json
    else (if has given (codes "plain") then tree_form.Plain else tree_form.Styled)

abbrev pub names_form_in : Given → NamesForm
names_form_in given = if has given (codes "json") then names_form.Json else names_form.Lines

abbrev pub value_form_in : Given → ValueForm
value_form_in given =
    if has given (codes "no-newline") then value_form.Raw raw_end.Nothing
    else (if has given (codes "raw") then value_form.Raw raw_end.LineFeed else value_form.Whole (tree_form_in given))

-- what `get` does where nothing is at the place
abbrev pub IsDefault : Given → MissingValue → Type 0
IsDefault given (missing_value.Default w) = Is given (codes "default") w
IsDefault given missing_value.Refused = text_of given (codes "default") ≡ None

-- the pointers of `get`: the empty one if the words give none
abbrev pub or_whole : List (List ℕ) → List (List ℕ)
or_whole [] = [] ∷ []
or_whole (pointer ∷ pointers) = pointer ∷ pointers

abbrev pub pointers_in : Given → List (List ℕ)
pointers_in given = or_whole (texts_of given (codes "POINTER"))

abbrev pub writes_lines : Given → Bool
writes_lines given =
    (has given (codes "json") || has given (codes "raw") && not (has given (codes "no-newline")))
    && not (is_some (text_of given (codes "default")))

-- the keys of abouts whose texts `log` shows: the usual ones if the words name none
abbrev pub or_usual : List (List ℕ) → List (List ℕ)
or_usual [] = codes "by" ∷ codes "when" ∷ codes "why" ∷ []
or_usual (key ∷ keys) = key ∷ keys

abbrev pub AreShown : Given → List Word → Type 0
AreShown given shown = map (λ key. key.now) shown ≡ or_usual (texts_of given (codes "about"))

-- how `log` writes commands
abbrev pub IsLogForm : Given → LogForm → Type 0
IsLogForm given log_form.Records = has given (codes "yaml") ≡ true
IsLogForm given log_form.Json = (has given (codes "yaml") ≡ false) × (has given (codes "json") ≡ true)
IsLogForm given (log_form.Lines shown) =
    (has given (codes "yaml") ≡ false) × (has given (codes "json") ≡ false) × (has given (codes "values") ≡ false)
    × AreShown given shown.items
IsLogForm given (log_form.Values shown hidden) =
    (has given (codes "yaml") ≡ false) × (has given (codes "json") ≡ false) × (has given (codes "values") ≡ true)
    × AreShown given shown.items × (map (λ p. p.now) hidden.items ≡ texts_of given (codes "hide"))

abbrev pub comments_in : Given → Comments
comments_in given =
    if has given (codes "keep-comments") then comments.Kept
    else (if has given (codes "drop-comments") then comments.Dropped else comments.Refused)

abbrev pub style_in : Given → Style
style_in given = if has given (codes "keep-comments") then style.WithComments else style.Bare

abbrev pub formatting_in : Given → Formatting
formatting_in given =
    if has given (codes "in-place") then formatting.InPlace (comments_in given)
    else (if has given (codes "check") then formatting.Check (style_in given) else formatting.Write (style_in given))

-- At most one file is written. One or more are replaced, and none of them is standard input.
abbrev pub files_are_wrong : Formatting → List (List ℕ) → Bool
files_are_wrong (formatting.Write style) files = nat_lt 1 (length files)
files_are_wrong (formatting.InPlace comments) files =
    length files == 0 || list_any (λ file. bytes_eq file (codes "-")) files
files_are_wrong (formatting.Check style) files = false

-- ---- each word: when it is wrong beside what its arguments say, and what it asks for

abbrev pub init_is_wrong : Given → Bool
init_is_wrong given = lacks given (codes "FOLDER" ∷ [])

abbrev pub IsInit : Given → Invocation → Type 0
IsInit given (Init folder) = Is given (codes "FOLDER") folder
IsInit given _ = ⊥

abbrev pub import_is_wrong : Given → Bool
import_is_wrong given = lacks given (codes "FOLDER" ∷ codes "NAME" ∷ []) || about_is_wrong given

abbrev pub IsImport : Given → Invocation → Type 0
IsImport given (Import import about reporting) =
    Is given (codes "FOLDER") import.folder × Is given (codes "NAME") import.name
    × IsOr (codes "-") given (codes "FILE") import.file × (import.root ≡ root_in given)
    × (import.missing ≡ missing_in given) × AreConditions given import.conditions
    × IsAboutIn given about × (reporting ≡ reporting_in given)
IsImport given _ = ⊥

abbrev pub set_is_wrong : Given → Bool
set_is_wrong given =
    lacks given (codes "FOLDER" ∷ codes "NAME" ∷ codes "POINTER" ∷ [])
    || not (is_some (text_of given (codes "file"))) && not (is_some (text_of given (codes "VALUE")))
    || (pointer_is_wrong given || about_is_wrong given)

abbrev pub IsSet : Given → Invocation → Type 0
IsSet given (Set target put about reporting) =
    Is given (codes "FOLDER") target.folder × Is given (codes "NAME") target.name
    × Is given (codes "POINTER") target.pointer × IsValue given (Some put.value)
    × (put.placing ≡ placing_in given) × AreConditions given target.conditions
    × IsAboutIn given about × (reporting ≡ reporting_in given)
IsSet given _ = ⊥

abbrev pub delete_is_wrong : Given → Bool
delete_is_wrong given =
    lacks given (codes "FOLDER" ∷ codes "NAME" ∷ []) || (pointer_is_wrong given || about_is_wrong given)

abbrev pub IsDelete : Given → Invocation → Type 0
IsDelete given (Alter target alteration.Delete about) =
    Is given (codes "FOLDER") target.folder × Is given (codes "NAME") target.name
    × IsOr [] given (codes "POINTER") target.pointer × AreConditions given target.conditions
    × IsAboutIn given about
IsDelete given _ = ⊥

abbrev pub copy_is_wrong : Given → Bool
copy_is_wrong given = lacks given (codes "FOLDER" ∷ codes "NAME" ∷ codes "TO" ∷ []) || about_is_wrong given

abbrev pub IsCopy : Given → Invocation → Type 0
IsCopy given (Alter target (alteration.Copy from) about) =
    Is given (codes "FOLDER") target.folder × Is given (codes "NAME") from × Is given (codes "TO") target.name
    × (target.pointer.now ≡ []) × AreCopyConditions given target.conditions × IsAboutIn given about
IsCopy given _ = ⊥

abbrev pub rename_is_wrong : Given → Bool
rename_is_wrong given = lacks given (codes "FOLDER" ∷ codes "NAME" ∷ codes "TO" ∷ []) || about_is_wrong given

abbrev pub IsRename : Given → Invocation → Type 0
IsRename given (Alter target (alteration.Rename from) about) =
    Is given (codes "FOLDER") target.folder × Is given (codes "NAME") from × Is given (codes "TO") target.name
    × (target.pointer.now ≡ []) × AreConditions given target.conditions × IsAboutIn given about
IsRename given _ = ⊥

-- no text of `move` is missing, and neither of its pointers is empty: that one stands for the whole configuration
abbrev pub is_empty : Option (List ℕ) → Bool
is_empty None = false
is_empty (Some pointer) = length pointer == 0

abbrev pub move_is_wrong : Given → Bool
move_is_wrong given =
    lacks given (codes "FOLDER" ∷ codes "NAME" ∷ codes "FROM" ∷ codes "TO" ∷ [])
    || (is_empty (text_of given (codes "FROM")) || is_empty (text_of given (codes "TO"))) || about_is_wrong given

abbrev pub IsMove : Given → Invocation → Type 0
IsMove given (Alter target (alteration.Move from) about) =
    Is given (codes "FOLDER") target.folder × Is given (codes "NAME") target.name × Is given (codes "FROM") from
    × Is given (codes "TO") target.pointer × AreConditions given target.conditions × IsAboutIn given about
IsMove given _ = ⊥

abbrev pub batch_is_wrong : Given → Bool
batch_is_wrong given = lacks given (codes "FOLDER" ∷ []) || about_is_wrong given

abbrev pub IsBatch : Given → Invocation → Type 0
IsBatch given (Batch batch about reporting) =
    Is given (codes "FOLDER") batch.folder × IsOr (codes "-") given (codes "FILE") batch.file
    × (batch.count ≡ number_in given (codes "if-count")) × IsAboutIn given about
    × (reporting ≡ reporting_in given)
IsBatch given _ = ⊥

abbrev pub checkpoint_is_wrong : Given → Bool
checkpoint_is_wrong given = lacks given (codes "FOLDER" ∷ [])

abbrev pub IsCheckpoint : Given → Invocation → Type 0
IsCheckpoint given (Checkpoint folder) = Is given (codes "FOLDER") folder
IsCheckpoint given _ = ⊥

abbrev pub run_is_wrong : Given → Bool
run_is_wrong given = lacks given (codes "FOLDER" ∷ [])

abbrev pub IsRun : Given → Invocation → Type 0
IsRun given (Run folder grouping) = Is given (codes "FOLDER") folder × (grouping ≡ grouping_in given)
IsRun given _ = ⊥

-- `export` has either a name or, by `--all`, a folder for all
abbrev pub export_is_wrong_by : Option (List ℕ) → Option (List ℕ) → Bool
export_is_wrong_by (Some name) None = false
export_is_wrong_by None (Some into) = false
export_is_wrong_by _ _ = true

abbrev pub export_is_wrong : Given → Bool
export_is_wrong given =
    lacks given (codes "FOLDER" ∷ [])
    || export_is_wrong_by (text_of given (codes "NAME")) (text_of given (codes "all"))

abbrev pub IsExport : Given → Invocation → Type 0
IsExport given (Export folder name form) =
    Is given (codes "FOLDER") folder × Is given (codes "NAME") name × (text_of given (codes "all") ≡ None)
    × (form ≡ tree_form_in given)
IsExport given (ExportAll folder into form) =
    Is given (codes "FOLDER") folder × Is given (codes "all") into × (text_of given (codes "NAME") ≡ None)
    × (form ≡ tree_form_in given)
IsExport given _ = ⊥

abbrev pub names_is_wrong : Given → Bool
names_is_wrong given = lacks given (codes "FOLDER" ∷ [])

abbrev pub IsNames : Given → Invocation → Type 0
IsNames given (Names folder at form) =
    Is given (codes "FOLDER") folder × (at ≡ number_in given (codes "at")) × (form ≡ names_form_in given)
IsNames given _ = ⊥

abbrev pub get_is_wrong : Given → Bool
get_is_wrong given =
    lacks given (codes "FOLDER" ∷ codes "NAME" ∷ [])
    || nat_lt 1 (length (pointers_in given)) && not (writes_lines given)

abbrev pub IsGet : Given → Invocation → Type 0
IsGet given (Get folder places missing form) =
    Is given (codes "FOLDER") folder × Is given (codes "NAME") places.name
    × (map (λ p. p.now) places.pointers.items ≡ pointers_in given) × (places.at ≡ number_in given (codes "at"))
    × IsDefault given missing × (form ≡ value_form_in given)
IsGet given _ = ⊥

abbrev pub keys_is_wrong : Given → Bool
keys_is_wrong given = lacks given (codes "FOLDER" ∷ codes "NAME" ∷ [])

abbrev pub IsKeys : Given → Invocation → Type 0
IsKeys given (Get folder places missing form) =
    Is given (codes "FOLDER") folder × Is given (codes "NAME") places.name
    × (map (λ p. p.now) places.pointers.items ≡ unwrap_or (text_of given (codes "POINTER")) [] ∷ [])
    × (places.at ≡ number_in given (codes "at")) × (missing ≡ missing_value.Refused) × (form ≡ value_form.Keys)
IsKeys given _ = ⊥

abbrev pub exists_is_wrong : Given → Bool
exists_is_wrong given = lacks given (codes "FOLDER" ∷ codes "NAME" ∷ [])

abbrev pub IsExists : Given → Invocation → Type 0
IsExists given (Exists folder place) =
    Is given (codes "FOLDER") folder × Is given (codes "NAME") place.name
    × IsOr [] given (codes "POINTER") place.pointer × (place.at ≡ number_in given (codes "at"))
IsExists given _ = ⊥

abbrev pub log_is_wrong : Given → Bool
log_is_wrong given = lacks given (codes "FOLDER" ∷ [])

abbrev pub IsLog : Given → Invocation → Type 0
IsLog given (Log folder commands form) =
    Is given (codes "FOLDER") folder × IsMaybe given (codes "NAME") commands.name
    × (commands.from ≡ unwrap_or (number_in given (codes "from")) 0)
    × (commands.at ≡ option_or (number_in given (codes "at")) (number_in given (codes "to")))
    × IsLogForm given form
IsLog given _ = ⊥

-- with `--files`, the two files of `diff` stand in the places of its folder and its name
abbrev pub diff_is_wrong : Given → Bool
diff_is_wrong given =
    lacks given (codes "FOLDER" ∷ []) || has given (codes "files") && lacks given (codes "NAME" ∷ [])

abbrev pub IsDiff : Given → Invocation → Type 0
IsDiff given (Diff folder name span) =
    (has given (codes "files") ≡ false) × Is given (codes "FOLDER") folder × IsMaybe given (codes "NAME") name
    × (span.from ≡ number_in given (codes "from")) × (span.to ≡ number_in given (codes "to"))
IsDiff given (DiffFiles first second) =
    (has given (codes "files") ≡ true) × Is given (codes "FOLDER") first × Is given (codes "NAME") second
IsDiff given _ = ⊥

abbrev pub verify_is_wrong : Given → Bool
verify_is_wrong given = lacks given (codes "FOLDER" ∷ [])

abbrev pub IsVerify : Given → Invocation → Type 0
IsVerify given (Verify folder keep_dropped) =
    Is given (codes "FOLDER") folder × IsMaybe given (codes "keep-dropped") keep_dropped
IsVerify given _ = ⊥

abbrev pub salvage_is_wrong : Given → Bool
salvage_is_wrong given = lacks given (codes "FOLDER" ∷ codes "NEW" ∷ [])

abbrev pub IsSalvage : Given → Invocation → Type 0
IsSalvage given (Salvage folder new keep_dropped) =
    Is given (codes "FOLDER") folder × Is given (codes "NEW") new
    × IsMaybe given (codes "keep-dropped") keep_dropped
IsSalvage given _ = ⊥

abbrev pub backup_is_wrong : Given → Bool
backup_is_wrong given = lacks given (codes "FOLDER" ∷ codes "NEW" ∷ [])

abbrev pub IsBackup : Given → Invocation → Type 0
IsBackup given (Backup folder new) = Is given (codes "FOLDER") folder × Is given (codes "NEW") new
IsBackup given _ = ⊥

abbrev pub format_is_wrong : Given → Bool
format_is_wrong given = files_are_wrong (formatting_in given) (texts_of given (codes "FILE"))

abbrev pub IsFormat : Given → Invocation → Type 0
IsFormat given (Format formatting files reporting) =
    (formatting ≡ formatting_in given) × (map (λ f. f.now) files.items ≡ texts_of given (codes "FILE"))
    × (reporting ≡ reporting_in given)
IsFormat given _ = ⊥

abbrev pub check_is_wrong : Given → Bool
check_is_wrong given = false

abbrev pub IsCheck : Given → Invocation → Type 0
IsCheck given (Check style files reporting) =
    (style ≡ style_in given) × (map (λ f. f.now) files.items ≡ texts_of given (codes "FILE"))
    × (reporting ≡ reporting_in given)
IsCheck given _ = ⊥

-- ---- any word

abbrev pub is_wrong : Subcommand → Given → Bool
is_wrong word.Init given = init_is_wrong given
is_wrong word.Import given = import_is_wrong given
is_wrong word.Set given = set_is_wrong given
is_wrong word.Delete given = delete_is_wrong given
is_wrong word.Copy given = copy_is_wrong given
is_wrong word.Rename given = rename_is_wrong given
is_wrong word.Move given = move_is_wrong given
is_wrong word.Batch given = batch_is_wrong given
is_wrong word.Checkpoint given = checkpoint_is_wrong given
is_wrong word.Run given = run_is_wrong given
is_wrong word.Export given = export_is_wrong given
is_wrong word.Names given = names_is_wrong given
is_wrong word.Get given = get_is_wrong given
is_wrong word.Keys given = keys_is_wrong given
is_wrong word.Exists given = exists_is_wrong given
is_wrong word.Log given = log_is_wrong given
is_wrong word.Diff given = diff_is_wrong given
is_wrong word.Verify given = verify_is_wrong given
is_wrong word.Salvage given = salvage_is_wrong given
is_wrong word.Backup given = backup_is_wrong given
is_wrong word.Format given = format_is_wrong given
is_wrong word.Check given = check_is_wrong given

abbrev pub IsAsked : Subcommand → Given → Invocation → Type 0
IsAsked word.Init given invocation = IsInit given invocation
IsAsked word.Import given invocation = IsImport given invocation
IsAsked word.Set given invocation = IsSet given invocation
IsAsked word.Delete given invocation = IsDelete given invocation
IsAsked word.Copy given invocation = IsCopy given invocation
IsAsked word.Rename given invocation = IsRename given invocation
IsAsked word.Move given invocation = IsMove given invocation
IsAsked word.Batch given invocation = IsBatch given invocation
IsAsked word.Checkpoint given invocation = IsCheckpoint given invocation
IsAsked word.Run given invocation = IsRun given invocation
IsAsked word.Export given invocation = IsExport given invocation
IsAsked word.Names given invocation = IsNames given invocation
IsAsked word.Get given invocation = IsGet given invocation
IsAsked word.Keys given invocation = IsKeys given invocation
IsAsked word.Exists given invocation = IsExists given invocation
IsAsked word.Log given invocation = IsLog given invocation
IsAsked word.Diff given invocation = IsDiff given invocation
IsAsked word.Verify given invocation = IsVerify given invocation
IsAsked word.Salvage given invocation = IsSalvage given invocation
IsAsked word.Backup given invocation = IsBackup given invocation
IsAsked word.Format given invocation = IsFormat given invocation
IsAsked word.Check given invocation = IsCheck given invocation

-- what a word's matches come to: an invocation exactly if they aren't wrong
abbrev pub Makes : Bool → (Invocation → Type 0) → Result Invocation Unasked → Type 0
Makes wrong Asks (Ok invocation) = (wrong ≡ false) × Asks invocation
Makes wrong Asks (Err why) = IsUnaskedFor wrong why

-- ---- what holds of each invocation

-- Files of these names may be formatted so: at most one is written, and standard input is not replaced.
abbrev pub FilesFit : Formatting → List (List ℕ) → Type 0
FilesFit (formatting.Write style) files = length files ≤ 1
FilesFit (formatting.InPlace comments) files = (1 ≤ length files) × All (λ file. file ≢ codes "-") files
FilesFit (formatting.Check style) files = Unit {0}

-- The files of `format` fit what it does with them. Nothing is said of other invocations.
abbrev pub HasFittingFiles : Invocation → Type 0
HasFittingFiles (Format formatting files reporting) = FilesFit formatting (map (λ file. file.now) files.items)
HasFittingFiles _ = Unit {0}

-- It holds of each invocation that words come to.
abbrev pub FilesAlwaysFit : Type 0
FilesAlwaysFit =
    (subcommand : Subcommand) (given : Given) (invocation : Invocation) → is_wrong subcommand given ≡ false
    → IsAsked subcommand given invocation → HasFittingFiles invocation
