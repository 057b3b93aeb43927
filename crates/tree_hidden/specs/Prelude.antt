-- What the definitions and the code of this crate name of others.
pub use Rattle.json_pointer.specs.{Tokens.texts, Pointers.path_of, declared.fault.PathFault.PathFault}
pub use Rattle.yaml_data.specs.{TextBytes.text_bytes, declared.text.Text.Text, OwnLimits.own_limits, Seen.{tree_of, elements_of}}
pub use Rattle.{yaml_data.specs.Seen.members_of, yaml_forms.specs.Json.{json_member, json_string, json_text}}
pub use Rattle.yaml_grammar.specs.{Texts.same_text, Trees.{Tree, text, sequence, mapping, Elements, no_element, element, Members}}
pub use Rattle.yaml_grammar.specs.Trees.{no_member, member, depth}
pub use Rattle.std.specs.{Borrow.Bor, Str.chars}
