-- Edits inside a configuration.
use Rattle.std.specs.Prelude.{ℕ, List, Result}
use Rattle.yaml_config.specs.{Prelude.{Tree, tree_of, set, delete, PathFault}, declared.edit.Edit.{Edit, TheVariants.{Set, Delete}}}

-- the tree after an edit at a path
abbrev pub tree_after_edit : Edit → Tree → List (List ℕ) → Result Tree PathFault
tree_after_edit (Set value) t path = set t path (tree_of value)
tree_after_edit Delete t path = delete t path
