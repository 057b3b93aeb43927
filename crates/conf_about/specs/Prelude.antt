-- What the definitions and the code of this crate name of others.
pub use Rattle.std.specs.Str.{chars}
pub use Rattle.{tree_path.specs.Paths.value_of, yaml_data.specs.{Keys.keys_differ, OwnLimits.own_limits, Seen.{tree_of, members_of}}}
pub use Rattle.{yaml_data.specs.TextBytes.text_bytes, yaml_grammar.specs.{Reads.{Limits, Gives}, Style.style_text, Texts.byte_len}}
pub use Rattle.yaml_grammar.specs.{Texts.is_empty, Trees.{Tree, text, sequence, mapping, Members, no_member, member, depth, IsTextTree}}
pub use Rattle.yaml_grammar.specs.Trees.{has_key}
