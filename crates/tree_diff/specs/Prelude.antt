-- What the definitions and the code of this crate name of others.
pub use Rattle.{json_pointer.specs.Pointers.{path_of, pointer_text, token_text, char_text, slash}, tree_path.specs.Paths.{set, delete}}
pub use Rattle.{tree_path.specs.Paths.and_then, yaml_data.specs.{Keys.{nodes, element_nodes, member_nodes}, Seen.{Pair, tree_of}}}
pub use Rattle.{yaml_data.specs.{Seen.{elements_of, members_of}, TextBytes.text_bytes}, yaml_grammar.specs.{Texts.same_text, Trees.Tree}}
pub use Rattle.yaml_grammar.specs.Trees.{text, sequence, mapping, Elements, no_element, element, Members, no_member, member, distinct}
pub use Rattle.std.specs.Str.{chars}
