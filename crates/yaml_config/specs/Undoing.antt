-- What takes a set in a configuration back.
use Rattle.std.specs.Prelude.{◌≡◌}
use Rattle.{yaml_config.specs.{Prelude.{Tree, byte_len, style_text}, Kept.IsKept, declared.undo.Undo.Undo}, tree_path.specs.Undoing.IsUndo}

-- the set that it takes back made `now` of `before`, which was a configuration of that length
pub record TakesBack (undo : Undo) (now before : Tree) : Type 0 where
  pub tree : IsUndo undo.tree now before
  pub kept : IsKept before
  pub length : undo.length ≡ byte_len (style_text before)
