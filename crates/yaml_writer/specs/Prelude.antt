-- What the definitions and the code of this crate name of others.
pub use Rattle.std.specs.{List.list_all, Str.{NonePass, chars}}
pub use Rattle.yaml_chars.specs.{Classes.{in_range, is_in}, Signs.{line_feed, backslash, double_quote, null, bell, carriage_return}}
pub use Rattle.{yaml_chars.specs.Signs.escape_char, yaml_data.specs.{OwnLimits.own_limits, Seen.{tree_of, elements_of, members_of}}}
pub use Rattle.yaml_grammar.specs.Style.{hex, plain_in_style, literal_in_style, feeds_at_end, long_key, key_lines, lines_after_dash}
pub use Rattle.yaml_grammar.specs.Style.{value_at, style_text, literal_lines, letter_escape, quoted_char, quoted_chars, in_double_quotes}
pub use Rattle.yaml_grammar.specs.Style.{letter, word_char, shown, special_words, lower, is_among, shown_or_feed, space_or_feed}
pub use Rattle.yaml_grammar.specs.{Style.{scalar_lines, elements_at, members_at, key_text}, Texts.{byte_len, spaces, first, same_text}}
pub use Rattle.yaml_grammar.specs.Trees.{Tree, text, sequence, mapping, Elements, no_element, element, Members, no_member, member, depth}
pub use Rattle.yaml_grammar.specs.Trees.{elements_depth, members_depth}
