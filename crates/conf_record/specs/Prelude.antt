-- What the definitions and the code of this crate name of others.
pub use Rattle.conf_state.specs.{BaseTexts.{entry_lines, entries_length, base_bytes, members, closed_document, base_text}, Commands.text_of}
pub use Rattle.conf_state.specs.Commands.{Command, Edit, import_as, set_at, delete_at, command_of, command_with, single, batch, noted}
pub use Rattle.conf_state.specs.{Commands.{name_of, edit_of}, Kept.entries_of, Limits.{AreConfigs, IsState}, Names.good_name}
pub use Rattle.conf_state.specs.{Rooms.record_limit, States.{Entry, Contents, names_of, names_differ, count_limit, base_limit}}
pub use Rattle.{conf_state.specs.{States.config_named, Steps.step, declared.room.Room.Room}, json_pointer.specs.Pointers.path_of}
pub use Rattle.{yaml_chars.specs.Signs.{line_feed, space_char, double_quote}, yaml_config.specs.Kept.{IsKept, own_limits}}
pub use Rattle.{yaml_config.specs.Limits.config_limits, yaml_data.specs.Seen.{Pair, tree_of, members_of, elements_of}}
pub use Rattle.{yaml_data.specs.TextBytes.text_bytes, yaml_grammar.specs.{Reads.{Good, Gives}, Style.{key_lines, value_at, members_after}}}
pub use Rattle.yaml_grammar.specs.{Style.{style_text, scalar_lines, elements_after, members_at}, Texts.{spaces, IsText, byte_len}}
pub use Rattle.yaml_grammar.specs.{Texts.same_text, Trees.{Tree, text, Elements, no_element, element, Members, sequence, mapping}}
pub use Rattle.{yaml_grammar.specs.Trees.{no_member, member, depth}, yaml_styled.specs.{Comparing.GoesOn, Sounds.Sound}}
pub use Rattle.yaml_writer.specs.Sizes.{element_size, indented_scalar_lines}
pub use Rattle.std.specs.{Borrow.Bor, Str.{chars, IsUtf8}, declared.alloc.Global.Global}
