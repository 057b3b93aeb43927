-- What the definitions and the code of this crate name of others.
pub use Rattle.std.specs.{List.list_all, Str.chars}
pub use Rattle.yaml_chars.specs.{Classes.{in_range, is_in}, Signs.{dot, digit_zero, small_x, backspace, tab, line_feed, form_feed}}
pub use Rattle.yaml_chars.specs.Signs.{carriage_return, small_b, small_f, small_n, small_r, small_t, double_quote, backslash, comma}
pub use Rattle.{yaml_chars.specs.Signs.open_bracket, yaml_data.specs.{OwnLimits.own_limits, Seen.{tree_of, elements_of, members_of}}}
pub use Rattle.yaml_grammar.specs.{FlowScalars.{hex_digit, hex_value}, Reads.{Limits, Good, Gives}, Style.{is_among, shown, hex}}
pub use Rattle.yaml_grammar.specs.{Style.{letter_escape, in_double_quotes, scalar_lines, key_lines}, Texts.{first, byte_len, spaces}}
pub use Rattle.yaml_grammar.specs.{Texts.same_text, Trees.{Tree, text, sequence, mapping, Elements, no_element, element, Members}}
pub use Rattle.yaml_grammar.specs.Trees.{no_member, member, IsTextTree, AreTextMembers, depth, elements_depth, members_depth}
pub use Rattle.yaml_recognizers.specs.StyleLaws.{CanReadAs}
