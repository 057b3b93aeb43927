-- What the definitions and the code of this crate name of others.
pub use Rattle.{json_pointer.specs.declared.fault.PathFault.PathFault, tree_path.specs.Paths.{child, set, delete, at, put, cut, key_in}}
pub use Rattle.{tree_path.specs.{Steps.{ArePlaces, Knows, KnowsWay}, Tables.Indexes}, yaml_data.specs.{OwnLimits.own_limits, Seen.tree_of}}
pub use Rattle.yaml_grammar.specs.{Reads.Good, Style.{scalar_lines, elements_at, members_at, value_at, style_text, lines_after_dash}}
pub use Rattle.yaml_grammar.specs.{Texts.byte_len, Trees.{Tree, text, sequence, mapping, no_element, element, no_member, member, depth}}
pub use Rattle.{yaml_grammar.specs.Trees.distinct, yaml_writer.specs.Sizes.{length_at, element_size, value_size, key_size, indented}}
pub use Rattle.std.specs.Str.{chars}
