-- The log of a store's file: a line for each command that is asked for, without its values, with them, or with them but for
-- what is hidden; a JSON object for each; or the records as they stand. A line shows some keys of the command's about.
use Rattle.std.specs.Prelude.{◌≡◌, ◌<◌, ◌⊎◌, ℕ, ◌+◌, nat_le, Bool, true, false, ◌||◌, ◌&&◌, if◌then◌else◌, List, [], ◌∷◌, ◌++◌, length}
use Rattle.std.specs.Prelude.{take, codes, decimal, encode_utf8_all, String, string_bytes, Option, Some, None, IfSome}
use Rattle.std.specs.{declared.alloc.Global.Global, Borrow.Bor}
use Rattle.conf_history.specs.Prelude.{MayBeDropped, StartsWithHole, Appends, Keeps, Pieces, in_double_quotes, store_limit, Edit, import_as}
use Rattle.conf_history.specs.Prelude.{set_at, delete_at, Command, single, batch, noted, Contents, PiecesMean, chars, name_of, same_text}
use Rattle.conf_history.specs.{Prelude.text_under, declared.fault.HistoryFault.{HistoryFault, TheVariants.{Output, Damaged, OutOfMemory}}}
use Rattle.conf_history.specs.declared.{line.LineForm.{LineForm, TheVariants.{Names, Values, Hiding}}, log.LogForm.LogForm}
use Rattle.conf_history.specs.{declared.log.{LogForm.TheVariants.{Lines, Json, Records}, LogRequest.LogRequest}, Histories.ReadsAtMost}
use Rattle.{conf_history.specs.{Histories.RefusesReading, AboutKeys.keys_of, JsonLogs.command_json_line}, yaml_grammar.specs.Trees.Tree}
use Rattle.{yaml_forms.specs.Json.json_text, json_pointer.specs.Pointers.path_of, tree_hidden.specs.{Hidden.shown_at, Tokens.paths_of}}

-- a space and the JSON text of a value that an edit puts at the place of a pointer, where the line shows it; without what is
-- hidden, if it hides anything
abbrev pub value_words : LineForm → List ℕ → Tree → List ℕ
value_words Names pointer value = []
value_words Values pointer value = codes " " ++ json_text value
value_words (Hiding paths) pointer value = codes " " ++ shown_at (path_of pointer) (paths_of paths.now) value

-- a space and what an edit does
abbrev pub edit_words : LineForm → Edit → List ℕ
edit_words form (import_as name tree) = codes " import " ++ name ++ value_words form [] tree
edit_words form (set_at name path value) =
    codes " set " ++ name ++ codes " " ++ in_double_quotes path ++ value_words form path value
edit_words form (delete_at name path) = codes " delete " ++ name ++ codes " " ++ in_double_quotes path

-- what edits do, each after this mark, and the others after a `;`
abbrev pub edits_words : LineForm → List ℕ → List Edit → List ℕ
edits_words form mark [] = []
edits_words form mark (edit ∷ edits) = mark ++ edit_words form edit ++ edits_words form (codes ";") edits

-- a space, a key, a space and a text in double quotes; nothing where there is no text
abbrev pub label : List ℕ → Option (List ℕ) → List ℕ
label key None = []
label key (Some content) = codes " " ++ key ++ codes " " ++ in_double_quotes content

-- the same with the text that an about has under the key
abbrev pub labelled : List ℕ → Tree → List ℕ
labelled key about = label key (text_under about key)

-- the same for each of these keys
abbrev pub about_words : List (List ℕ) → Tree → List ℕ
about_words [] about = []
about_words (key ∷ keys) about = labelled key about ++ about_words keys about

-- a space and what a command changes, with an about or without
abbrev pub change_words : LineForm → Command → List ℕ
change_words form (single edit) = edit_words form edit
change_words form (batch edits) = codes " batch" ++ edits_words form [] edits
change_words form (noted command about) = change_words form command

-- the same; before it, what is shown of its about, if it has one
abbrev pub command_words : LineForm → List (List ℕ) → Command → List ℕ
command_words form shown (single edit) = change_words form (single edit)
command_words form shown (batch edits) = change_words form (batch edits)
command_words form shown (noted command about) = about_words shown about ++ change_words form command

-- the line of a command with a number
abbrev pub command_line : LineForm → List (List ℕ) → ℕ → Command → List ℕ
command_line form shown number command = decimal number ++ command_words form shown command ++ codes "\n"

-- whether one of the edits is of the configuration with a name
abbrev pub any_changes : List ℕ → List Edit → Bool
any_changes name [] = false
any_changes name (edit ∷ edits) = same_text name (name_of edit) || any_changes name edits

-- whether a command changes the configuration with a name, with an about or without
abbrev pub changes : List ℕ → Command → Bool
changes name (single edit) = same_text name (name_of edit)
changes name (batch edits) = any_changes name edits
changes name (noted command about) = changes name command

-- the same; any command does, if no name is given
abbrev pub is_of : Option (Bor (List ℕ)) → Command → Bool
is_of None command = true
is_of (Some name) command = changes (chars name.now) command

-- whether a log is asked for a command with a number: from one on, and of one name or of all
abbrev pub is_asked : LogRequest → ℕ → Command → Bool
is_asked request number command = nat_le request.from number && is_of request.name command

-- a command with a number, which has this record, as it is written
abbrev pub shown_entry : LogForm → ℕ → List ℕ → Command → List ℕ
shown_entry (Lines form shown) number bytes command = encode_utf8_all (command_line form (keys_of shown.now) number command)
shown_entry Json number bytes command = encode_utf8_all (command_json_line number command)
shown_entry Records number bytes command = bytes

-- what is written for it: nothing, if it is not asked for
abbrev pub entry_bytes : LogRequest → ℕ → List ℕ → Command → List ℕ
entry_bytes request number bytes command =
    if is_asked request number command then shown_entry request.form number bytes command else []

-- the line of a command with a number, where lines are written
abbrev pub TellsLine : LogForm → String Global → ℕ → Command → Type 0
TellsLine (Lines form shown) line number command =
    string_bytes line ≡ encode_utf8_all (command_line form (keys_of shown.now) number command)
TellsLine Json line number command = string_bytes line ≡ encode_utf8_all (command_json_line number command)
TellsLine Records line number command = Unit {0}

-- what is kept of a command with a number before it is performed: its line, if it is asked for
abbrev pub TellsEntry : LogRequest → Option (String Global) → ℕ → Command → Type 0
TellsEntry request None number command = is_asked request number command ≡ false
TellsEntry request (Some line) number command =
    (is_asked request number command ≡ true) × TellsLine request.form line number command

-- the same for consecutive ones, numbered on from a count
abbrev pub log_bytes : LogRequest → ℕ → List (List ℕ) → List Command → List ℕ
log_bytes request count [] commands = []
log_bytes request count (piece ∷ pieces) [] = []
log_bytes request count (piece ∷ pieces) (command ∷ commands) =
    entry_bytes request (count + 1) piece command ++ log_bytes request (count + 1) pieces commands

-- the same for pieces, of which the first is a base
abbrev pub log_of_pieces : LogRequest → ℕ → List (List ℕ) → List Command → List ℕ
log_of_pieces request count [] commands = []
log_of_pieces request count (base ∷ records) commands = log_bytes request count records commands

-- The first pieces of the bytes are a base and records, and this is what is written for the records.
pub record BeginsLog (bytes : List ℕ) (request : LogRequest) (log : List ℕ) : Type 0 where
  pub pieces : List (List ℕ)
  pub further : List (List ℕ)
  pub rest : List ℕ
  pub cut : Pieces bytes (pieces ++ further) rest
  pub s : Contents
  pub mean : PiecesMean pieces s
  pub is : log ≡ log_of_pieces request mean.start.count pieces mean.commands

-- the number is reached, or no piece follows but those that a crash may have left
abbrev pub IsUpTo : Bool → Option ℕ → Contents → List (List ℕ) → Type 0
IsUpTo several None s further = StartsWithHole further × MayBeDropped several further
IsUpTo several (Some number) s further = s.count ≡ number

-- what is written for all records, or for those up to a number
pub record IsWholeLog (several : Bool) (bytes : List ℕ) (at : Option ℕ) (request : LogRequest) (log : List ℕ) : Type 0 where
  pub begins : BeginsLog bytes request log
  pub up_to : IsUpTo several at begins.s begins.further

-- What known bytes give was written whole. At most 1,073,741,824 bytes were read.
pub record LogsAll (several : Bool) (at : Option ℕ) (request : LogRequest) (given left held written : Option (List ℕ)) : Type 0 where
  pub log : List ℕ
  pub out : Appends held written log
  pub whole : IfSome given (λ bytes. IsWholeLog several bytes at request log)
  pub read : ReadsAtMost store_limit given left

-- all records but the last were written whole, and less than the last
pub record CutsLog (bytes : List ℕ) (request : LogRequest) (log : List ℕ) : Type 0 where
  pub before : List ℕ
  pub entry : List ℕ
  pub kept : ℕ
  pub begins : BeginsLog bytes request (before ++ entry)
  pub is : log ≡ before ++ take kept entry
  pub short : kept < length entry

-- Why not all was written, and what was: for the records before the bad piece at Damaged, and for a number of first
-- records at another fault of the file.
abbrev pub LogsBefore : Bool → List ℕ → Option ℕ → LogRequest → List ℕ → HistoryFault → Type 0
LogsBefore several bytes at request log Output = CutsLog bytes request log
LogsBefore several bytes at request log (Damaged bad) =
    RefusesReading several bytes at (Damaged bad) × (begins : BeginsLog bytes request log) × (length begins.pieces ≡ bad.number)
LogsBefore several bytes at request log fault = RefusesReading several bytes at fault × ((log ≡ []) ⊎ BeginsLog bytes request log)

-- so much of the log of known bytes was written, where each command is written as soon as it was performed
pub record StopsLog (several : Bool) (at : Option ℕ) (request : LogRequest) (given held written : Option (List ℕ)) (fault : HistoryFault)
    : Type 0 where
  pub log : List ℕ
  pub out : Appends held written log
  pub before : IfSome given (λ bytes. LogsBefore several bytes at request log fault)

-- less than what known bytes give was written, where the writer failed
pub record CutsWholeLog (several : Bool) (at : Option ℕ) (request : LogRequest) (given held written : Option (List ℕ)) : Type 0 where
  pub log : List ℕ
  pub kept : ℕ
  pub out : Appends held written (take kept log)
  pub short : kept < length log
  pub whole : IfSome given (λ bytes. IsWholeLog several bytes at request log)

-- Why not all was written, and what was. With a number nothing was, unless the writer failed.
abbrev pub FailsToLog : Bool → Option ℕ → LogRequest → Option (List ℕ) → Option (List ℕ) → Option (List ℕ) → HistoryFault → Type 0
FailsToLog several None request given held written fault = StopsLog several None request given held written fault
FailsToLog several (Some number) request given held written Output = CutsWholeLog several (Some number) request given held written
FailsToLog several (Some number) request given held written fault =
    IfSome given (λ bytes. RefusesReading several bytes (Some number) fault) × Keeps held written

-- the fault of a log that was to be held in memory, which takes no bytes only where there is no more
abbrev pub fault_of_holding : HistoryFault → HistoryFault
fault_of_holding Output = OutOfMemory
fault_of_holding fault = fault
