-- What the definitions and the code of this crate name of others.
pub use Rattle.{json_pointer.specs.Tokens.texts, yaml_data.specs.{Seen.{Pair, tree_of, elements_of, members_of}, TextBytes.text_bytes}}
pub use Rattle.yaml_grammar.specs.{Texts.{is_empty, same_text}, Trees.{Tree, text, sequence, mapping, Elements, no_element, element}}
pub use Rattle.yaml_grammar.specs.Trees.{Members, no_member, member, distinct, members_distinct}
pub use Rattle.std.specs.{List.{list_all, remove}, Str.chars}
