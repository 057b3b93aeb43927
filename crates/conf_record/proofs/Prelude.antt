-- What the proofs of this crate name of others.
pub use Rattle.conf_state.proofs.DraftLemmas.{named-put-same, has_name-named, names_differ-push}
pub use Rattle.conf_state.proofs.LineLemmas.{line, number_line, base_lines, ascii, framed_line}
pub use Rattle.conf_state.specs.BaseTexts.{members, entry_lines, entries_length, base_tree, closed_document}
unfoldable pub use Rattle.conf_state.specs.BaseTexts.{base_bytes, base_text, base_length, entry_length}
pub use Rattle.conf_state.specs.Commands.{Edit, import_as, set_at, delete_at, Command, single, batch, noted, name_of, text_of, edit_of}
pub use Rattle.conf_state.specs.{Commands.{command_of, command_with}, Configs.is_name, EntryTexts.{lines_if_there, entry_named}}
pub use Rattle.conf_state.specs.{Kept.entries_of, Limits.{AreConfigs, IsState, AreWithin}, Names.{good_name, small_letter, name_char}}
pub use Rattle.conf_state.specs.States.{Entry, Contents, config_named, put_config, cut_config, names_of, has_name, names_differ, base_limit}
pub use Rattle.{conf_state.specs.States.count_limit, json_pointer.specs.Pointers.{path_of, slash, stray, first_stray, first_piece, pieces}}
pub use Rattle.json_pointer.specs.{Pointers.{token_from_text, tokens_or_place}, declared.fault.PathFault.PathFault}
pub use Rattle.tree_path.specs.Paths.{set, delete, digit, is_number, number_after, Index, number, after_last, no_index, index_of, at_index}
pub use Rattle.tree_path.specs.Paths.{present, put_element, cut_element, push_element, value_of, put_member, cut_member, edit_from}
pub use Rattle.std.proofs.lemmas.Bool.{and_parts, and_from, eqb-true, eqb-false, Decides.{nat_tests, same_from_decides}}
pub use Rattle.std.proofs.lemmas.{Fmt.{decimal_is_IsNumeral, IsAscii-decimal, length-decimal-le, parse-decimal}, List.{drop_more, drop_all}}
pub use Rattle.std.proofs.lemmas.{Result.{on_ok_weaker, IfOk-weaker}, Str.{encodes-append, IsUtf8-string_bytes, chars-encodes}}
pub use Rattle.std.proofs.lemmas.Str.{chars-IsAscii, encodes-chars, len_utf8_bounds, encodes-IsAscii, chars_from_encodes}
pub use Rattle.std.{proofs.lemmas.Str.{IsCharBoundary-after_ascii, Pattern.{strip_prefix_char, strip_suffix_char}}, specs.Char.len_utf8}
pub use Rattle.std.specs.{List.{concat, list_all, remove}, Map.lookup, Option.{IfNone, IfSome}, Str.{chars, IsUtf8, all_scalars}}
pub use Rattle.std.specs.{Str.Parse.{digits_value, AllDigits}, Vec.{vec_len, Iter.{into_iter_items, into_iter_len}}}
unfoldable pub use Rattle.tree_path.specs.Paths.{child, put, cut}
pub use Rattle.yaml_chars.specs.{Classes.{code_point, in_range}, Signs.{tilde, line_feed, space_char, double_quote}}
pub use Rattle.yaml_config.{proofs.TextTreeLemmas.chars-IsText, specs.{Kept.{own_limits, IsKept}, Limits.config_limits}}
pub use Rattle.yaml_data.proofs.{CharacterLemmas.{same_text-true, same_text-self, chars-same, every-IsAscii}, SeenLemmas.tree_of-Text}
pub use Rattle.yaml_data.{proofs.SeenLemmas.{tree_of-Seq, tree_of-Map}, specs.Seen.{tree_of, Pair, members_of, elements_of}}
pub use Rattle.{yaml_data.specs.{TextBytes.text_bytes, declared.text.Text.Text}, yaml_grammar.specs.Closings.{Pieces, ClosesOnce}}
pub use Rattle.yaml_grammar.specs.{Reads.{Good, Limits, Gives}, Style.{style_text, members_after, key_lines, value_at, lines_after_dash}}
pub use Rattle.yaml_grammar.specs.Style.{elements_after, members_at, scalar_lines, shown, plain_in_style, literal_in_style, hex}
pub use Rattle.yaml_grammar.specs.Style.{letter_escape, quoted_char, quoted_chars, in_double_quotes, literal_mark, literal_lines}
pub use Rattle.yaml_grammar.specs.{Style.{feeds_at_end, key_text}, Texts.{byte_len, same_text, spaces, IsText, is_empty, first}, Trees.Tree}
pub use Rattle.yaml_grammar.specs.Trees.{depth, text, mapping, sequence, Elements, no_element, element, Members, no_member, member}
pub use Rattle.yaml_grammar.specs.Trees.{elements_depth, members_depth, has_key, distinct, elements_distinct, members_distinct}
pub use Rattle.{yaml_grammar.specs.Trees.{AreTextElements, AreTextMembers}, yaml_recognizers.specs.Closings.framed_text_bytes}
pub use Rattle.yaml_recognizers.specs.Closings.{all_framed_bytes, TornInPieces, TornPieces, framed_text}
pub use Rattle.{yaml_styled.specs.{Comparing.{GoesOn, goes_on_both}, Styles.IsStyled}, yaml_tree.specs.Reading.{IsRead, GivesNone}}
pub use Rattle.yaml_writer.{proofs.ByteLemmas.{byte_len-encoded, byte_len-chars, byte_len-spaces}, specs.BudgetLaws.byte_len-append}
pub use Rattle.yaml_writer.specs.{Runs.stands_alone, Sizes.{element_size, indented_literal_lines}, declared.size.Size.Size}
