-- What an edited text is.
use Rattle.std.specs.Prelude.{◌≡◌, ℕ, List, Ok}
use Rattle.{yaml_grammar.specs.{Style.style_text, Trees.{Tree, text}}, yaml_config.specs.Limits.config_limits}
use Rattle.{yaml_tree.specs.Reading.IsRead, tree_path.specs.Paths.set, json_pointer.specs.Pointers.path_of}

-- the bytes give a tree, the pointer is a path, and the text is the one style of that tree with the value at the path
pub record IsEdited (bytes pointer value edited : List ℕ) : Type 0 where
  pub before : Tree
  pub read : IsRead bytes config_limits before
  pub path : List (List ℕ)
  pub parsed : path_of pointer ≡ Ok path
  pub after : Tree
  pub replaced : set before path (text value) ≡ Ok after
  pub written : edited ≡ style_text after
