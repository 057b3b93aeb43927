-- Edits inside a configuration.
use Rattle.std.specs.Prelude.{◌≡◌, ℕ, ◌<◌, ◌≤◌, if◌then◌else◌, List, length, Result, Ok, Err}
use Rattle.conf_state.specs.{Prelude.{byte_len, Tree, depth, style_text, path_of, config_limits, Changes, tree_after_edit}, Names.good_name}
use Rattle.conf_state.specs.declared.{fault.StoreFault.{StoreFault, TheVariants.{BadName, NoConfig}}, planning.EditPlan.EditPlan}
use Rattle.conf_state.specs.{States.{Entry, config_named}, Steps.{and_then, found, by_path, checked_tree, with_checked_config}}
use Rattle.{tree_path.specs.Steps.ArePlaces, yaml_config.specs.declared.edit.Edit.Edit as PathEdit}

-- the configurations with an edited tree under a name, or the refusal of the edit
abbrev pub configs_with_edit : List Entry → List ℕ → PathEdit → Tree → List (List ℕ) → Result (List Entry) StoreFault
configs_with_edit configs name edit t path =
    and_then (by_path (tree_after_edit edit t path)) (with_checked_config configs name)

-- the configurations after an edit, at a pointer, of the one under a name
abbrev pub configs_after_edit : List Entry → List ℕ → PathEdit → List ℕ → Result (List Entry) StoreFault
configs_after_edit configs name edit pointer =
    and_then (found (config_named configs name))
    (λ t. and_then (by_path (path_of pointer)) (configs_with_edit configs name edit t))

-- why there is no configuration under a name
abbrev pub absence : List ℕ → StoreFault
absence name = if good_name name then NoConfig else BadName

-- the configurations after an edit, at a pointer, of the one under a name that may not be good
abbrev pub configs_edited : List Entry → List ℕ → PathEdit → List ℕ → Result (List Entry) StoreFault
configs_edited configs name edit pointer =
    if good_name name then configs_after_edit configs name edit pointer else Err BadName

-- ---- one configuration

-- the tree after an edit at a path, if it is within the limits
abbrev pub checked_edit : PathEdit → Tree → List (List ℕ) → Result Tree StoreFault
checked_edit edit t path = and_then (by_path (tree_after_edit edit t path)) checked_tree

-- the same at a pointer
abbrev pub edited_at : PathEdit → Tree → List ℕ → Result Tree StoreFault
edited_at edit t pointer = and_then (by_path (path_of pointer)) (checked_edit edit t)

-- The plan is one of this edit. The edit leaves the configuration within its limits. The plan has its length then, what
-- changes in its length, and the places of the path's steps.
pub record IsPlan (edit : PathEdit) (old : Tree) (plan : EditPlan) : Type 0 where
  pub new : Tree
  pub steps : 0 < length plan.path
  pub made : tree_after_edit edit old plan.path ≡ Ok new
  pub deep : depth new ≤ config_limits.depth
  pub long : byte_len (style_text new) ≤ config_limits.style
  pub bytes : plan.bytes ≡ byte_len (style_text new)
  pub changes : Changes plan.change old new
  pub places : ArePlaces plan.places old plan.path
