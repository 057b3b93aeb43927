-- What the definitions and the code of this crate name of others.
pub use Rattle.std.specs.Str.{chars, IsUtf8}
pub use Rattle.yaml_data.specs.{Keys.{nothing, values_distinct, keys_differ}, Seen.{Pair, tree_of, elements_of, members_of}}
pub use Rattle.yaml_grammar.specs.Style.{scalar_lines, elements_at, members_at, key_lines, lines_after_dash, value_at, style_text, letter}
pub use Rattle.yaml_grammar.specs.{Style.{plain_in_style, word_char}, Texts.{spaces, same_text}, Trees.{Members, no_member, member, Tree}}
pub use Rattle.yaml_grammar.specs.Trees.{text, sequence, mapping, Elements, no_element, element, IsTextTree, AreTextElements}
pub use Rattle.yaml_grammar.specs.Trees.{AreTextMembers, depth, elements_depth, members_depth, distinct, elements_distinct, has_key}
pub use Rattle.yaml_writer.specs.Sizes.{element_size, indented, indented_scalar_lines, is_filled, indented_key_lines, value_indented}
