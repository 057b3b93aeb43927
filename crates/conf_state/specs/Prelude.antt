-- What the definitions and the code of this crate name of others.
pub use Rattle.{json_pointer.specs.{Pointers.path_of, declared.fault.PathFault.PathFault}, yaml_config.specs.Changes.Changes}
pub use Rattle.{yaml_config.specs.{Edits.tree_after_edit, Limits.config_limits}, yaml_data.specs.Seen.tree_of}
pub use Rattle.yaml_grammar.specs.{Reads.Good, Style.{style_text, key_lines, value_at}, Texts.{byte_len, spaces, first, same_text}}
pub use Rattle.yaml_grammar.specs.Trees.{Tree, text, mapping, Members, no_member, member, depth, sequence, Elements, no_element, element}
pub use Rattle.std.specs.{Borrow.{MutBor, Fml, LendsSo, sem}, Iterator.{at_most, YieldsFirstBy, item_count}, List.list_all, Map.set_value}
pub use Rattle.std.specs.{Map.lookup, Str.{chars, bytes_eq}, declared.alloc.Global.Global}
