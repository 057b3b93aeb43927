-- What edits make of configurations where no limit is in the way: as `all_edited` of conf_state says, but a tree may have
-- any depth and length.
use Rattle.std.specs.Prelude.{◌≡◌, ℕ, if◌then◌else◌, List, [], ◌∷◌, Option, Some, None, Result, Ok, Err}
use Rattle.conf_diff.specs.Prelude.{Edit, import_as, set_at, delete_at, name_of, good_name, Entry, config_named, put_config, cut_config}
use Rattle.conf_diff.specs.Prelude.{and_then, by_path, found, path_of, set, delete, StoreFault, BadName, TooDeep, ConfigLarge, Tree}

-- at the empty path the configuration is removed, at any other it is edited
abbrev pub freely_deleted : List Entry → List ℕ → Tree → List (List ℕ) → Result (List Entry) StoreFault
freely_deleted configs name t [] = Ok (cut_config configs name)
freely_deleted configs name t (token ∷ tokens) =
    and_then (by_path (delete t (token ∷ tokens))) (λ u. Ok (put_config configs name u))

-- after an edit whose name is good
abbrev pub freely_after : List Entry → Edit → Result (List Entry) StoreFault
freely_after configs (import_as name tree) = Ok (put_config configs name tree)
freely_after configs (set_at name path value) =
    and_then (found (config_named configs name)) (λ t.
    and_then (by_path (path_of path)) (λ tokens.
    and_then (by_path (set t tokens value)) (λ u. Ok (put_config configs name u))))
freely_after configs (delete_at name path) =
    and_then (found (config_named configs name)) (λ t.
    and_then (by_path (path_of path)) (freely_deleted configs name t))

-- after an edit, or why it is refused
abbrev pub freely_edited : List Entry → Edit → Result (List Entry) StoreFault
freely_edited configs edit = if good_name (name_of edit) then freely_after configs edit else Err BadName

-- after edits that are made one after the other, or the first refusal
abbrev pub all_freely_edited : List Entry → List Edit → Result (List Entry) StoreFault
all_freely_edited configs [] = Ok configs
all_freely_edited configs (edit ∷ edits) = and_then (freely_edited configs edit) (λ next. all_freely_edited next edits)

-- the configurations with a tree under a name, or without one
abbrev pub with_config : List Entry → List ℕ → Option Tree → List Entry
with_config configs name (Some t) = put_config configs name t
with_config configs name None = cut_config configs name

-- the outcome is these configurations, or a limit of one of them is in the way
abbrev pub IsUnlessLimited : Result (List Entry) StoreFault → List Entry → Type 0
IsUnlessLimited (Ok configs) wanted = configs ≡ wanted
IsUnlessLimited (Err TooDeep) wanted = Unit {0}
IsUnlessLimited (Err ConfigLarge) wanted = Unit {0}
IsUnlessLimited (Err fault) wanted = ⊥
