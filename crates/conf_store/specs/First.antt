-- What the bytes of a `store.yaml` of the format `confstore-1` mean. These definitions never change: they are those of
-- the first format, where a command was one edit and the limits were smaller. The law `old_stores_read` says that
-- today's give the same state wherever these give one. Nothing else uses them.
use Rattle.std.specs.Prelude.{◌≡◌, ◌≤◌, ℕ, ◌+◌, Bool, true, ◌&&◌, nat_le, nat_lt, if◌then◌else◌, length, List, [], ◌∷◌, codes, decimal}
use Rattle.std.specs.Prelude.{Option, Some, None, option_map, is_ok, Result, Ok, Err}
use Rattle.conf_store.specs.Prelude.{chars, IsUtf8, Pieces, style_text, byte_len, same_text, Tree, depth, text, sequence, mapping}
use Rattle.conf_store.specs.Prelude.{no_member, member, set, delete, store_limit, good_name, Entry, Contents, config_named, put_config}
use Rattle.conf_store.specs.Prelude.{cut_config, base_limit, count_limit, names_of, names_differ, members, closed_document, and_then, found}
use Rattle.conf_store.specs.Prelude.{by_path, StoreFault, BadName, TooDeep, ConfigLarge, StoreFull, CountFull, number_from_digits, keys_are}
use Rattle.{conf_store.specs.Prelude.{values, entries, base_keys}, yaml_grammar.specs.Reads.{Limits, Good, Gives}}
use Rattle.json_pointer.specs.Pointers.{path_of}

-- ---- limits

abbrev pub config_limits : Limits
config_limits = record { bytes = 1048576; depth = 64; style = 1048576 }

abbrev pub own_limits : Limits
own_limits = record { bytes = 67108864; depth = 66; style = 67108864 }

-- ---- commands

-- a tree is put under a name; a value is set, or what is there is removed, at a path in the configuration under a name
pub data Command : Type 0 where
  import_as : (name : List ℕ) (tree : Tree) → Command
  set_at : (name path : List ℕ) (value : Tree) → Command
  delete_at : (name path : List ℕ) → Command

abbrev pub name_of : Command → List ℕ
name_of (import_as name tree) = name
name_of (set_at name path value) = name
name_of (delete_at name path) = name

-- ---- states

abbrev pub base_tree : Contents → Tree
base_tree s =
    mapping (member (codes "store") (text (codes "confstore-1"))
    (member (codes "at") (text (decimal s.count))
    (member (codes "configs") (mapping (members s.configs)) no_member)))

unfoldable pub base_length : Contents → ℕ
base_length s = byte_len (closed_document (base_tree s))

-- each name is good, and each tree is within the limits of a configuration
abbrev pub AreConfigs : List Entry → Type 0
AreConfigs [] = Unit {0}
AreConfigs (e ∷ es) = (good_name e.0 ≡ true) × Good e.1 config_limits × AreConfigs es

-- the state keeps its limits
pub record IsState (s : Contents) : Type 0 where
  pub configs : AreConfigs s.configs
  pub distinct : names_differ (names_of s.configs) ≡ true
  pub short : base_length s ≤ base_limit
  pub numbered : s.count ≤ count_limit

-- ---- what a command makes of a state

-- a tree that is within the limits of a configuration, or the fault that it is not
abbrev pub checked_tree : Tree → Result Tree StoreFault
checked_tree t =
    if nat_lt config_limits.depth (depth t) then Err TooDeep
    else if nat_lt config_limits.style (byte_len (style_text t)) then Err ConfigLarge
    else Ok t

-- the configurations with a tree under a name, if it is within the limits
abbrev pub with_checked_config : List Entry → List ℕ → Tree → Result (List Entry) StoreFault
with_checked_config configs name t = and_then (checked_tree t) (λ u. Ok (put_config configs name u))

-- at the empty path the configuration is removed, at any other it is edited
abbrev pub configs_after_delete : List Entry → List ℕ → Tree → List (List ℕ) → Result (List Entry) StoreFault
configs_after_delete configs name t [] = Ok (cut_config configs name)
configs_after_delete configs name t (token ∷ tokens) =
    and_then (by_path (delete t (token ∷ tokens))) (with_checked_config configs name)

abbrev pub configs_after : List Entry → Command → Result (List Entry) StoreFault
configs_after configs (import_as name tree) = with_checked_config configs name tree
configs_after configs (set_at name path value) =
    and_then (found (config_named configs name)) (λ t.
    and_then (by_path (path_of path)) (λ tokens.
    and_then (by_path (set t tokens value)) (with_checked_config configs name)))
configs_after configs (delete_at name path) =
    and_then (found (config_named configs name)) (λ t.
    and_then (by_path (path_of path)) (configs_after_delete configs name t))

-- the state with these configurations after one more command
abbrev pub next_state : Contents → List Entry → Result Contents StoreFault
next_state s configs =
    let new : Contents = record { configs = configs; count = s.count + 1 } in
    if nat_lt base_limit (base_length new) then Err StoreFull
    else if nat_le count_limit s.count then Err CountFull
    else Ok new

abbrev pub step : Contents → Command → Result Contents StoreFault
step s command =
    if good_name (name_of command) then and_then (configs_after s.configs command) (next_state s) else Err BadName

-- the state after commands that are accepted one after the other, or the first refusal
abbrev pub after : Contents → List Command → Result Contents StoreFault
after s [] = Ok s
after s (command ∷ commands) = and_then (step s command) (λ new. after new commands)

-- ---- records

abbrev pub import_keys : List (List ℕ)
import_keys = codes "at" ∷ codes "import" ∷ codes "tree" ∷ []

abbrev pub set_keys : List (List ℕ)
set_keys = codes "at" ∷ codes "set" ∷ codes "path" ∷ codes "value" ∷ []

abbrev pub delete_keys : List (List ℕ)
delete_keys = codes "at" ∷ codes "delete" ∷ codes "path" ∷ []

abbrev pub has_good_path : Command → Bool
has_good_path (import_as name tree) = true
has_good_path (set_at name path value) = is_ok (path_of path)
has_good_path (delete_at name path) = is_ok (path_of path)

-- the command with the number, if its name, its path and the digits are good
abbrev pub command_with_number : Command → List ℕ → Option (Command × ℕ)
command_with_number command digits =
    if good_name (name_of command) && has_good_path command
    then option_map (λ number. (command, number)) (number_from_digits digits) else None

abbrev pub import_of : List Tree → Option (Command × ℕ)
import_of (text digits ∷ text name ∷ tree ∷ []) = command_with_number (import_as name tree) digits
import_of ts = None

abbrev pub set_of : List Tree → Option (Command × ℕ)
set_of (text digits ∷ text name ∷ text path ∷ value ∷ []) = command_with_number (set_at name path value) digits
set_of ts = None

abbrev pub delete_of : List Tree → Option (Command × ℕ)
delete_of (text digits ∷ text name ∷ text path ∷ []) = command_with_number (delete_at name path) digits
delete_of ts = None

-- the command and the number that a record's tree holds
unfoldable pub record_of : Tree → Option (Command × ℕ)
record_of (text value) = None
record_of (sequence ts) = None
record_of (mapping ms) =
    if keys_are import_keys ms then import_of (values ms)
    else if keys_are set_keys ms then set_of (values ms)
    else if keys_are delete_keys ms then delete_of (values ms)
    else None

-- the text gives a record's tree, within the limits of a `Config`
pub record ReadsRecord (source : List ℕ) (command : Command) (number : ℕ) : Type 0 where
  pub tree : Tree
  pub gives : Gives source own_limits tree
  pub tells : record_of tree ≡ Some (command, number)

-- the bytes are a text that reads as a command with a number
pub record IsRecord (bytes : List ℕ) (command : Command) (number : ℕ) : Type 0 where
  pub utf8 : IsUtf8 bytes
  pub reads : ReadsRecord (chars bytes) command number

-- ---- bases

abbrev pub contents_of : List Tree → Option Contents
contents_of (text mark ∷ text digits ∷ mapping configs ∷ []) =
    if same_text mark (codes "confstore-1")
    then option_map (λ number. record { configs = entries configs; count = number }) (number_from_digits digits)
    else None
contents_of ts = None

-- the state that a base's tree holds, whatever its limits
unfoldable pub base_of : Tree → Option Contents
base_of (text value) = None
base_of (sequence ts) = None
base_of (mapping ms) = if keys_are base_keys ms then contents_of (values ms) else None

-- the text gives a base's tree, within the limits of a `Config`, and the state keeps its own
pub record ReadsBase (source : List ℕ) (state : Contents) : Type 0 where
  pub tree : Tree
  pub gives : Gives source own_limits tree
  pub tells : base_of tree ≡ Some state
  pub kept : IsState state

-- the bytes are a text that reads as a state
pub record IsBase (bytes : List ℕ) (state : Contents) : Type 0 where
  pub utf8 : IsUtf8 bytes
  pub reads : ReadsBase (chars bytes) state

-- ---- a file

-- The pieces are records of these commands, in this order. Each is numbered one more than the count before it.
abbrev pub AreRecords : ℕ → List (List ℕ) → List Command → Type 0
AreRecords count [] [] = Unit {0}
AreRecords count [] (command ∷ commands) = ⊥
AreRecords count (piece ∷ pieces) [] = ⊥
AreRecords count (piece ∷ pieces) (command ∷ commands) =
    IsRecord piece command (count + 1) × AreRecords (count + 1) pieces commands

-- The first piece is a base and the others are records; performing their commands on the base's state gives `s`.
pub record PiecesMean (pieces : List (List ℕ)) (s : Contents) : Type 0 where
  pub base : List ℕ
  pub records : List (List ℕ)
  pub are : pieces ≡ base ∷ records
  pub start : Contents
  pub is_base : IsBase base start
  pub commands : List Command
  pub are_records : AreRecords start.count records commands
  pub leads : after start commands ≡ Ok s

-- The bytes are within the limit, and their pieces mean `s`. The bytes after the last closing line are ignored.
pub record Means (bytes : List ℕ) (s : Contents) : Type 0 where
  pub short : length bytes ≤ store_limit
  pub pieces : List (List ℕ)
  pub rest : List ℕ
  pub cut : Pieces bytes pieces rest
  pub mean : PiecesMean pieces s
