-- What a command makes of a state: the new state, or the first refusal that holds. They come in this order: EmptyBatch;
-- for each edit in turn BadName, NoConfig, Path, TooDeep, ConfigLarge; StoreFull, RecordLong, JournalLong, CountFull.
use Rattle.std.specs.Prelude.{ℕ, ◌+◌, nat_le, nat_lt, if◌then◌else◌, List, [], ◌∷◌, Option, Some, None, Result, Ok, Err}
use Rattle.conf_state.specs.{Prelude.{byte_len, Tree, depth, style_text, path_of, PathFault, config_limits}, Names.good_name}
use Rattle.conf_state.specs.{BaseTexts.base_length, declared.fault.StoreFault.{StoreFault, TheVariants.{EmptyBatch, BadName, NoConfig}}}
use Rattle.conf_state.specs.declared.fault.StoreFault.TheVariants.{Path, Read, TooDeep, ConfigLarge, StoreFull, RecordLong, JournalLong}
use Rattle.conf_state.specs.declared.{fault.StoreFault.TheVariants.{CountFull, Reopen, Device, OutOfMemory}, room.Room.Room}
use Rattle.conf_state.specs.{declared.room.Room.TheVariants.{Enough, LongRecord, Missing}, Commands.{Edit, import_as, set_at, delete_at}}
use Rattle.conf_state.specs.{Commands.{Command, single, batch, noted, name_of}, States.{Entry, Contents, config_named, put_config}}
use Rattle.{conf_state.specs.States.{cut_config, base_limit, count_limit}, tree_path.specs.Paths.{set, delete}}

-- the first refusal of two calls in a row, or what the second gives
abbrev pub and_then : {A B : Type 0} → Result A StoreFault → (A → Result B StoreFault) → Result B StoreFault
and_then (Ok x) next = next x
and_then (Err fault) next = Err fault

-- ---- the configurations after an edit whose name is good

-- the configuration that an edit needs
abbrev pub found : Option Tree → Result Tree StoreFault
found (Some t) = Ok t
found None = Err NoConfig

-- the outcome of an operation at a path, as an outcome of the store
abbrev pub by_path : {A : Type 0} → Result A PathFault → Result A StoreFault
by_path (Ok x) = Ok x
by_path (Err fault) = Err (Path fault)

-- a tree that is within the limits of a configuration, or the fault that it is not
abbrev pub checked_tree : Tree → Result Tree StoreFault
checked_tree t =
    if nat_lt config_limits.depth (depth t) then Err TooDeep
    else if nat_lt config_limits.style (byte_len (style_text t)) then Err ConfigLarge
    else Ok t

-- the configurations with a tree under a name, if it is within the limits
abbrev pub with_checked_config : List Entry → List ℕ → Tree → Result (List Entry) StoreFault
with_checked_config configs name t = and_then (checked_tree t) (λ u. Ok (put_config configs name u))

-- at the empty path the configuration is removed, at any other it is edited
abbrev pub configs_after_delete : List Entry → List ℕ → Tree → List (List ℕ) → Result (List Entry) StoreFault
configs_after_delete configs name t [] = Ok (cut_config configs name)
configs_after_delete configs name t (token ∷ tokens) =
    and_then (by_path (delete t (token ∷ tokens))) (with_checked_config configs name)

abbrev pub configs_after : List Entry → Edit → Result (List Entry) StoreFault
configs_after configs (import_as name tree) = with_checked_config configs name tree
configs_after configs (set_at name path value) =
    and_then (found (config_named configs name)) (λ t.
    and_then (by_path (path_of path)) (λ tokens.
    and_then (by_path (set t tokens value)) (with_checked_config configs name)))
configs_after configs (delete_at name path) =
    and_then (found (config_named configs name)) (λ t.
    and_then (by_path (path_of path)) (configs_after_delete configs name t))

-- ---- the configurations after a command

-- after an edit, or why it is refused
abbrev pub edited : List Entry → Edit → Result (List Entry) StoreFault
edited configs edit = if good_name (name_of edit) then configs_after configs edit else Err BadName

-- after edits that are made one after the other, or the first refusal
abbrev pub all_edited : List Entry → List Edit → Result (List Entry) StoreFault
all_edited configs [] = Ok configs
all_edited configs (edit ∷ edits) = and_then (edited configs edit) (λ next. all_edited next edits)

-- after a command; a batch needs an edit, and an about makes no difference
abbrev pub performed : List Entry → Command → Result (List Entry) StoreFault
performed configs (single edit) = edited configs edit
performed configs (batch []) = Err EmptyBatch
performed configs (batch (edit ∷ edits)) = all_edited configs (edit ∷ edits)
performed configs (noted command about) = performed configs command

-- ---- the state after a command

-- an outcome, if there is room for the command's record, or the refusal for which there is none
abbrev pub with_room : {A : Type 0} → Room → Result A StoreFault → Result A StoreFault
with_room Enough outcome = outcome
with_room LongRecord outcome = Err RecordLong
with_room Missing outcome = Err JournalLong

-- the state with these configurations after one more command
abbrev pub next_state : Contents → Room → List Entry → Result Contents StoreFault
next_state s room configs =
    let new : Contents = record { configs = configs; count = s.count + 1 } in
    if nat_lt base_limit (base_length new) then Err StoreFull
    else with_room room (if nat_le count_limit s.count then Err CountFull else Ok new)

abbrev pub step : Contents → Command → Room → Result Contents StoreFault
step s command room = and_then (performed s.configs command) (next_state s room)

-- A refusal of a command by a state. The other faults are those of a text that is read, of the disk and of memory.
abbrev pub IsRefusal : StoreFault → Type 0
IsRefusal (Read fault) = ⊥
IsRefusal Reopen = ⊥
IsRefusal Device = ⊥
IsRefusal OutOfMemory = ⊥
IsRefusal fault = Unit {0}

-- the state after commands that are accepted one after the other, or the first refusal
abbrev pub after : Contents → List Command → Result Contents StoreFault
after s [] = Ok s
after s (command ∷ commands) = and_then (step s command Enough) (λ new. after new commands)
