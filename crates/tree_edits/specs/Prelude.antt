-- What the definitions and the code of this crate name of others.
pub use Rattle.json_pointer.specs.{declared.fault.PathFault.PathFault, Pointers.{path_of, pointer_text}, Tokens.texts}
pub use Rattle.tree_path.specs.{Paths.{at, child, index_of, push_element, set}, Steps.{as_usize, number_of, parents_of}}
pub use Rattle.{yaml_config.specs.Kept.{IsKept, own_limits}, yaml_data.specs.Seen.{elements_of, tree_of}}
pub use Rattle.yaml_grammar.specs.{Style.style_text, Texts.{byte_len, same_text}, Trees.{Tree, text, sequence, mapping, Elements}}
pub use Rattle.yaml_grammar.specs.Trees.{no_element, element, no_member, member, depth, distinct, has_key}
pub use Rattle.std.specs.Str.{chars}
