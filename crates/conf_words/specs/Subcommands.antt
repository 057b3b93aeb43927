-- The subcommands: the word and the arguments of each.
use Rattle.std.specs.Prelude.{ℕ, ◌==◌, ◌&&◌, ◌||◌, Bool, true, false, List, [], ◌∷◌, find, Option, None, is_some, codes, if◌then◌else◌}
use Rattle.std.specs.{Prelude.{length, nat_le, slice_index}, Str.bytes_eq}
use Rattle.command_line.specs.Rows.{Kind, Row, Tie, Required, Optional, OptionalText, Several, Flag, ShortFlag, Word, Words, Text, Number}
use Rattle.{command_line.specs.Rows.{Free, Needs, Excludes, Replaces}, conf_words.specs.declared.subcommand.Subcommand.Subcommand}
use Rattle.conf_words.specs.declared.subcommand.Subcommand.TheVariants.{Init, Import, Set, Delete, Copy, Rename, Move, Batch, Checkpoint}
use Rattle.conf_words.specs.declared.subcommand.Subcommand.TheVariants.{Run, Export, Names, Get, Keys, Exists, Log, Diff, Verify, Salvage}
use Rattle.conf_words.specs.declared.subcommand.Subcommand.TheVariants.{Backup, Format, Check}

-- the word of a subcommand
abbrev pub name_of : Subcommand → List ℕ
name_of Init = codes "init"
name_of Import = codes "import"
name_of Set = codes "set"
name_of Delete = codes "delete"
name_of Copy = codes "copy"
name_of Rename = codes "rename"
name_of Move = codes "move"
name_of Batch = codes "batch"
name_of Checkpoint = codes "checkpoint"
name_of Run = codes "run"
name_of Export = codes "export"
name_of Names = codes "names"
name_of Get = codes "get"
name_of Keys = codes "keys"
name_of Exists = codes "exists"
name_of Log = codes "log"
name_of Diff = codes "diff"
name_of Verify = codes "verify"
name_of Salvage = codes "salvage"
name_of Backup = codes "backup"
name_of Format = codes "format"
name_of Check = codes "check"

-- ---- the arguments of each

abbrev pub row : List ℕ → Kind → Tie → Row
row name kind tie = record { name = name; kind = kind; tie = tie }

abbrev pub place : List ℕ → Row
place name = row name Required Free

abbrev pub flag : List ℕ → Row
flag name = row name Flag Free

abbrev pub folder : Row
folder = place (codes "FOLDER")

abbrev pub name : Row
name = place (codes "NAME")

abbrev pub pointer : Row
pointer = row (codes "POINTER") Optional Free

abbrev pub new : Row
new = place (codes "NEW")

abbrev pub other : Row
other = place (codes "TO")

abbrev pub file : Row
file = row (codes "FILE") Optional Free

abbrev pub files : Row
files = row (codes "FILE") Several Free

abbrev pub wait : Row
wait = row (codes "wait") Word Free

abbrev pub explain : Row
explain = flag (codes "explain")

abbrev pub whole : Row
whole = flag (codes "whole")

abbrev pub parents : Row
parents = row (codes "parents") Flag (Excludes (codes "whole" ∷ []))

abbrev pub insert : Row
insert = row (codes "insert") Flag (Excludes (codes "parents" ∷ codes "whole" ∷ []))

abbrev pub at : Row
at = row (codes "at") (Number 0) Free

abbrev pub json : Row
json = row (codes "json") Flag (Excludes (codes "plain" ∷ []))

abbrev pub plain : Row
plain = flag (codes "plain")

abbrev pub keep_dropped : Row
keep_dropped = row (codes "keep-dropped") Word Free

abbrev pub if_value : Row
if_value = row (codes "if-value") Text (Excludes (codes "if-absent" ∷ []))

abbrev pub if_absent : Row
if_absent = flag (codes "if-absent")

abbrev pub if_count : Row
if_count = row (codes "if-count") (Number 0) Free

abbrev pub about : Row
about = row (codes "about") Words Free

abbrev pub rows_of : Subcommand → List Row
rows_of Init = wait ∷ folder ∷ []
rows_of Import =
    flag (codes "init") ∷ flag (codes "any-root") ∷ explain ∷ if_value ∷ if_absent ∷ if_count ∷ about ∷ wait ∷ folder
    ∷ name ∷ file ∷ []
rows_of Set =
    flag (codes "yaml") ∷ row (codes "file") Word (Excludes (codes "yaml" ∷ [])) ∷ parents ∷ insert ∷ whole ∷ explain
    ∷ if_value ∷ if_absent ∷ if_count ∷ about ∷ wait ∷ folder ∷ name ∷ place (codes "POINTER")
    ∷ row (codes "VALUE") OptionalText (Replaces (codes "file")) ∷ []
rows_of Delete = whole ∷ if_value ∷ if_absent ∷ if_count ∷ about ∷ wait ∷ folder ∷ name ∷ pointer ∷ []
rows_of Copy =
    row (codes "replace") Flag (Excludes (codes "if-absent" ∷ [])) ∷ if_value ∷ if_absent ∷ if_count ∷ about ∷ wait
    ∷ folder ∷ name ∷ other ∷ []
rows_of Rename = if_value ∷ if_absent ∷ if_count ∷ about ∷ wait ∷ folder ∷ name ∷ other ∷ []
rows_of Move = if_value ∷ if_absent ∷ if_count ∷ about ∷ wait ∷ folder ∷ name ∷ place (codes "FROM") ∷ other ∷ []
rows_of Batch = explain ∷ if_count ∷ about ∷ wait ∷ folder ∷ file ∷ []
rows_of Checkpoint = wait ∷ folder ∷ []
rows_of Run =
    flag (codes "group") ∷ row (codes "checkpoint-after") (Number 1) (Needs (codes "group")) ∷ wait ∷ folder ∷ []
rows_of Export =
    row (codes "all") Word Free ∷ json ∷ plain ∷ wait ∷ folder
    ∷ row (codes "NAME") Optional (Replaces (codes "all")) ∷ []
rows_of Names = flag (codes "json") ∷ at ∷ folder ∷ []
rows_of Get =
    row (codes "raw") Flag (Excludes (codes "json" ∷ codes "plain" ∷ []))
    ∷ row (codes "no-newline") Flag (Needs (codes "raw")) ∷ json ∷ plain ∷ row (codes "default") Text Free ∷ at
    ∷ folder ∷ name ∷ row (codes "POINTER") Several Free ∷ []
rows_of Keys = at ∷ folder ∷ name ∷ pointer ∷ []
rows_of Exists = at ∷ folder ∷ name ∷ pointer ∷ []
rows_of Log =
    row (codes "values") Flag (Excludes (codes "yaml" ∷ [])) ∷ row (codes "hide") Words (Needs (codes "values"))
    ∷ row (codes "yaml") Flag (Excludes (codes "hide" ∷ []))
    ∷ row (codes "json") Flag (Excludes (codes "yaml" ∷ codes "values" ∷ codes "hide" ∷ []))
    ∷ row (codes "about") Words (Excludes (codes "yaml" ∷ codes "json" ∷ [])) ∷ row (codes "from") (Number 0) Free
    ∷ row (codes "to") (Number 0) (Excludes (codes "at" ∷ [])) ∷ at ∷ folder ∷ row (codes "NAME") Optional Free ∷ []
rows_of Diff =
    row (codes "from") (Number 0) (Excludes (codes "files" ∷ [])) ∷ row (codes "to") (Number 0) (Excludes (codes "files" ∷ []))
    ∷ row (codes "files") Flag (Needs (codes "NAME")) ∷ folder ∷ row (codes "NAME") Optional Free ∷ []
rows_of Verify = keep_dropped ∷ folder ∷ []
rows_of Salvage = keep_dropped ∷ folder ∷ new ∷ []
rows_of Backup = folder ∷ new ∷ []
rows_of Format =
    row (codes "in-place") (ShortFlag 105) (Needs (codes "FILE")) ∷ row (codes "drop-comments") Flag (Needs (codes "in-place"))
    ∷ row (codes "keep-comments") Flag (Excludes (codes "drop-comments" ∷ []))
    ∷ row (codes "check") Flag (Excludes (codes "in-place" ∷ codes "drop-comments" ∷ [])) ∷ explain ∷ files ∷ []
rows_of Check = flag (codes "keep-comments") ∷ explain ∷ files ∷ []

-- all of them
abbrev pub all : List Subcommand
all =
    Init ∷ Import ∷ Set ∷ Delete ∷ Copy ∷ Rename ∷ Move ∷ Batch ∷ Checkpoint ∷ Run ∷ Export ∷ Names ∷ Get ∷ Keys
    ∷ Exists ∷ Log ∷ Diff ∷ Verify ∷ Salvage ∷ Backup ∷ Format ∷ Check ∷ []

-- the subcommand of this word
abbrev pub named_among : List ℕ → List Subcommand → Option Subcommand
named_among word subcommands = find (λ s. bytes_eq (name_of s) word) subcommands

unfoldable pub named : List ℕ → Option Subcommand
named word = named_among word all

-- the subcommand that words ask for: the second of them names it
abbrev pub asked_in : List (List ℕ) → Option Subcommand
asked_in (program ∷ word ∷ words) = named word
asked_in _ = None

-- whether there is help on these words
abbrev pub is_topic : List (List ℕ) → Bool
is_topic [] = true
is_topic (word ∷ []) = bytes_eq word (codes "help") || is_some (named word)
is_topic _ = false

-- whether a word begins with `-h` or `-V`
abbrev pub begins_with_request : List ℕ → Bool
begins_with_request word =
    nat_le 2 (length word) && slice_index word 0 == 45 && (slice_index word 1 == 104 || slice_index word 1 == 86)

-- whether words that ask for no subcommand ask for help or the version
abbrev pub asks_by : List ℕ → List (List ℕ) → Bool
asks_by word words =
    if bytes_eq word (codes "help") then is_topic words
    else bytes_eq word (codes "--help") || bytes_eq word (codes "--version") || begins_with_request word

abbrev pub asks_for_help : List (List ℕ) → Bool
asks_for_help (program ∷ word ∷ words) = asks_by word words
asks_for_help _ = false
