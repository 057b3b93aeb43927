-- Which texts are records and bases, and what they hold. The document may be spelled in any way. With other keys, keys
-- in another order, or a number, a name or a path that is not good, it is neither.
use Rattle.std.specs.Prelude.{◌≡◌, ℕ, Bool, true, false, ◌&&◌, ◌||◌, nat_le, if◌then◌else◌, List, [], ◌∷◌, codes, decimal, Option, Some}
use Rattle.std.specs.{Prelude.{None, option_map, is_ok, is_none}, Str.Parse.digits_value}
use Rattle.conf_record.specs.Prelude.{IsText, same_text, Tree, text, sequence, mapping, Elements, no_element, element, Members, no_member}
use Rattle.conf_record.specs.Prelude.{member, Gives, IsKept, own_limits, path_of, good_name, Edit, import_as, set_at, delete_at, Command}
use Rattle.conf_record.specs.Prelude.{single, batch, noted, name_of, Entry, Contents, count_limit, IsState}
use Rattle.conf_about.specs.Abouts.{IsAbout, fault_of}

-- ---- the parts of a document

-- the number whose decimal text this is, if it is at most the greatest count
abbrev pub number_from_digits : List ℕ → Option ℕ
number_from_digits digits =
    let number = digits_value 10 digits in
    if nat_le number count_limit && same_text digits (decimal number) then Some number else None

-- the keys of the members are these, in this order
abbrev pub keys_are : List (List ℕ) → Members → Bool
keys_are [] no_member = true
keys_are [] (member key t ms) = false
keys_are (k ∷ ks) no_member = false
keys_are (k ∷ ks) (member key t ms) = same_text key k && keys_are ks ms

abbrev pub values : Members → List Tree
values no_member = []
values (member key t ms) = t ∷ values ms

-- ---- edits

abbrev pub import_keys : List (List ℕ)
import_keys = codes "import" ∷ codes "tree" ∷ []

abbrev pub set_keys : List (List ℕ)
set_keys = codes "set" ∷ codes "path" ∷ codes "value" ∷ []

abbrev pub delete_keys : List (List ℕ)
delete_keys = codes "delete" ∷ codes "path" ∷ []

abbrev pub import_of : List Tree → Option Edit
import_of (text name ∷ tree ∷ []) = Some (import_as name tree)
import_of ts = None

abbrev pub set_of : List Tree → Option Edit
set_of (text name ∷ text path ∷ value ∷ []) = Some (set_at name path value)
set_of ts = None

abbrev pub delete_of : List Tree → Option Edit
delete_of (text name ∷ text path ∷ []) = Some (delete_at name path)
delete_of ts = None

abbrev pub has_good_path : Edit → Bool
has_good_path (import_as name tree) = true
has_good_path (set_at name path value) = is_ok (path_of path)
has_good_path (delete_at name path) = is_ok (path_of path)

-- an edit whose name and path are good
abbrev pub if_good : Option Edit → Option Edit
if_good None = None
if_good (Some edit) = if good_name (name_of edit) && has_good_path edit then Some edit else None

-- the edit of a mapping whose name and path may be any texts, if an import has its value under this key
abbrev pub edit_under : List ℕ → Members → Option Edit
edit_under key ms =
    if keys_are (codes "import" ∷ key ∷ []) ms then import_of (values ms)
    else if keys_are set_keys ms then set_of (values ms)
    else if keys_are delete_keys ms then delete_of (values ms)
    else None

-- the edit of a mapping
abbrev pub edit_from : Members → Option Edit
edit_from ms = if_good (edit_under (codes "tree") ms)

-- ---- records

-- the edit of an element of a batch
abbrev pub edit_in : Tree → Option Edit
edit_in (text value) = None
edit_in (sequence ts) = None
edit_in (mapping ms) = edit_from ms

-- an edit before others, if all are there
abbrev pub ahead : Option Edit → Option (List Edit) → Option (List Edit)
ahead None edits = None
ahead (Some edit) edits = option_map (λ rest. edit ∷ rest) edits

-- the edits of a batch: each element is one
abbrev pub edits_of : Elements → Option (List Edit)
edits_of no_element = Some []
edits_of (element t ts) = ahead (edit_in t) (edits_of ts)

abbrev pub batch_keys : List (List ℕ)
batch_keys = codes "batch" ∷ []

abbrev pub batch_of : List Tree → Option Command
batch_of (sequence ts ∷ []) = option_map batch (edits_of ts)
batch_of ts = None

-- the command of the members after the number, without an about
abbrev pub plain_from : Members → Option Command
plain_from ms = if keys_are batch_keys ms then batch_of (values ms) else option_map single (edit_from ms)

-- the member is an about: who makes a change, when and why
abbrev pub is_about : List ℕ → Tree → Bool
is_about key t = same_text key (codes "about") && is_none (fault_of t)

-- the about that is the last of some members, if one is
abbrev pub about_in : Members → Option Tree
about_in no_member = None
about_in (member key t no_member) = if is_about key t then Some t else None
about_in (member key t (member other u ms)) = about_in (member other u ms)

-- the members without an about as the last of them
abbrev pub without_about : Members → Members
without_about no_member = no_member
without_about (member key t no_member) = if is_about key t then no_member else member key t no_member
without_about (member key t (member other u ms)) = member key t (without_about (member other u ms))

-- a command with an about, if there is one
abbrev pub with_about : Option Tree → Option Command → Option Command
with_about None read = read
with_about (Some about) read = option_map (λ command. noted command about) read

-- the command of the members after the number
abbrev pub command_from : Members → Option Command
command_from ms = with_about (about_in ms) (plain_from (without_about ms))

abbrev pub with_number : Option Command → List ℕ → Option (Command × ℕ)
with_number None digits = None
with_number (Some command) digits = option_map (λ number. (command, number)) (number_from_digits digits)

-- the command and the number of a mapping with this first member
abbrev pub numbered_of : List ℕ → Tree → Members → Option (Command × ℕ)
numbered_of key (text digits) ms =
    if same_text key (codes "at") then with_number (command_from ms) digits else None
numbered_of key t ms = None

-- the command and the number that a record's tree holds
unfoldable pub record_of : Tree → Option (Command × ℕ)
record_of (text value) = None
record_of (sequence ts) = None
record_of (mapping no_member) = None
record_of (mapping (member key t ms)) = numbered_of key t ms

-- the text gives a record's tree, within the limits of a `Config`
pub record ReadsRecord (source : List ℕ) (command : Command) (number : ℕ) : Type 0 where
  pub tree : Tree
  pub gives : Gives source own_limits tree
  pub tells : record_of tree ≡ Some (command, number)

-- ---- bases

abbrev pub base_keys : List (List ℕ)
base_keys = codes "store" ∷ codes "at" ∷ codes "configs" ∷ []

abbrev pub entries : Members → List Entry
entries no_member = []
entries (member name t ms) = (name, t) ∷ entries ms

-- the names of the formats in which bases are written
abbrev pub is_written_format : List ℕ → Bool
is_written_format mark = same_text mark (codes "confstore-2") || same_text mark (codes "confstore-3")

-- the names of the formats that a base may have; the first is written no more
abbrev pub is_format : List ℕ → Bool
is_format mark = same_text mark (codes "confstore-1") || is_written_format mark

abbrev pub contents_of : List Tree → Option Contents
contents_of (text mark ∷ text digits ∷ mapping configs ∷ []) =
    if is_format mark
    then option_map (λ number. record { configs = entries configs; count = number }) (number_from_digits digits)
    else None
contents_of ts = None

-- the state that a base's tree holds, whatever its limits
unfoldable pub base_of : Tree → Option Contents
base_of (text value) = None
base_of (sequence ts) = None
base_of (mapping ms) = if keys_are base_keys ms then contents_of (values ms) else None

-- the text gives a base's tree, within the limits of a `Config`, and the state keeps its own
pub record ReadsBase (source : List ℕ) (state : Contents) : Type 0 where
  pub tree : Tree
  pub gives : Gives source own_limits tree
  pub tells : base_of tree ≡ Some state
  pub kept : IsState state

-- ---- commands of the code

-- What holds of each edit: its path is a text, and its tree is one that a `Config` keeps. Nothing is said of the name,
-- since an edit is accepted only under a good one.
abbrev pub IsEdit : Edit → Type 0
IsEdit (import_as name tree) = IsKept tree
IsEdit (set_at name path value) = IsText path × IsKept value
IsEdit (delete_at name path) = IsText path

abbrev pub AreEdits : List Edit → Type 0
AreEdits [] = Unit {0}
AreEdits (edit ∷ edits) = IsEdit edit × AreEdits edits

-- it has no about
abbrev pub IsPlain : Command → Type 0
IsPlain (noted command about) = ⊥
IsPlain command = Unit {0}

abbrev pub IsCommand : Command → Type 0
IsCommand (single edit) = IsEdit edit
IsCommand (batch edits) = AreEdits edits
IsCommand (noted command about) = IsPlain command × IsCommand command × IsAbout about
