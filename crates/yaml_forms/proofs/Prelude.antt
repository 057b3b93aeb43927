-- What the proofs of this crate name of others.
pub use Rattle.std.proofs.lemmas.Bool.{ne_eqb, ltb-true, cond_both, and_parts, and_from, or_cases, eqb-true, agree_below_at, false≢true}
pub use Rattle.std.proofs.lemmas.Bool.{or_left, or_right, or_parts, not-true, le-leb, ltb-false, not_from_false, eqb-false, cases_lt}
pub use Rattle.std.proofs.lemmas.{Bool.Decides.{nat_tests, same_from_decides}, List.{append-nil, drop_more, drop_all}, Result.on_ok_weaker}
pub use Rattle.std.{proofs.lemmas.Str.{encodes-append, encodes-IsAscii, chars-IsAscii}, specs.{List.list_all, Str.chars}}
pub use Rattle.yaml_chars.specs.Classes.{code_point, ns, white, is_in, indicator, line_break, in_range}
pub use Rattle.yaml_data.proofs.CharacterLemmas.{chars-literal, every-IsAscii, same_text-true, chars-same, boundary_past_char, drop_char}
pub use Rattle.yaml_data.proofs.{CharacterLemmas.{chars_empty, same_text-Decides}, ListLemmas.drop_item, SeenLemmas.tree_of-Text}
pub use Rattle.yaml_data.{proofs.SeenLemmas.{tree_of-Seq, tree_of-Map}, specs.Seen.{elements_of, members_of, tree_of}}
pub use Rattle.yaml_grammar.specs.BlockNodes.{flow, Node, node_text, node_fits, items_text, items_fit, Indented, indented_text}
pub use Rattle.yaml_grammar.specs.BlockNodes.{indented_fits, node, Pair, pair_text, pair_fits, pairs_text, pairs_fit, asked, keyed, block}
pub use Rattle.yaml_grammar.specs.BlockNodes.{node_events, items_events, indented_events, pair_events, pairs_events, items, pairs, Items}
pub use Rattle.yaml_grammar.specs.{BlockNodes.{item, item_and, Pairs, pair, pair_and, compact_items, compact_pairs}, Events.Event}
pub use Rattle.yaml_grammar.specs.{Events.{as_document, document_end, seq_start, seq_end, map_start, map_end}, FlowNodes.{Flow, flow_fits}}
pub use Rattle.yaml_grammar.specs.FlowNodes.{given, value_text, Entry, entry_fits, entries_fit, flow_text, flow_events, entry_events}
pub use Rattle.yaml_grammar.specs.FlowNodes.{entries_events, scalar, seq, map, Entries, none, last, next, entry, absent, entry_text}
pub use Rattle.yaml_grammar.specs.{FlowNodes.{entries_text, short_key}, FlowScalars.{escape, number, FlowContext, outer, in_flow}}
pub use Rattle.yaml_grammar.specs.FlowScalars.{quoted_char_fits, quoted_char_value, values, QuotedChar, raw, double, quoted_char_text}
pub use Rattle.yaml_grammar.specs.FlowScalars.{block_key, safe, plain, lines_text, plain_first, plain_run, char_value, hex_digit, hex_value}
pub use Rattle.yaml_grammar.specs.{Separation.{LineEnd, comments_text, comments_fit, inline, Sep, sep_text, sep_fits}, Streams.fits}
pub use Rattle.yaml_grammar.specs.{Streams.{stream_events, Stream, bare, stream_text}, Style.{shown, hex, letter_escape, plain_in_style}}
pub use Rattle.yaml_grammar.specs.Style.{letter, in_double_quotes, key_text, long_key, key_lines, literal_in_style, space_or_feed}
pub use Rattle.yaml_grammar.specs.Style.{shown_or_feed, scalar_lines, quoted_chars, literal_mark, literal_lines, feeds_at_end, is_among}
pub use Rattle.yaml_grammar.specs.{Texts.{IsText, byte_len, first, spaces, starts_line, marker, same_text}, Trees.{Tree, text, sequence}}
pub use Rattle.yaml_grammar.specs.Trees.{mapping, Elements, no_element, element, Members, no_member, member, IsTextTree, AreTextElements}
pub use Rattle.yaml_grammar.specs.Trees.{AreTextMembers, Shape, scalar_of, seq_from, seq_to, map_from, map_to, document_from, document_to}
pub use Rattle.yaml_grammar.specs.Trees.{shape, shapes, tree_shapes, elements_shapes, members_shapes, IsTreeOf, depth, elements_depth}
pub use Rattle.{yaml_grammar.specs.Trees.members_depth, yaml_recognizers.proofs.OneStyle.Characters.{every_joined, of_letter, after_not}}
pub use Rattle.yaml_recognizers.proofs.OneStyle.Characters.{code_point_high, Writes, quoted_chars_all, shown_low, to_range}
pub use Rattle.yaml_recognizers.proofs.OneStyle.Presented.{feed, one_space, word_flow, scalar_node, pair_of, items_of_text, literal_block}
pub use Rattle.yaml_recognizers.proofs.OneStyle.{Presented.{empty_sequence, empty_mapping, at_start}, QuotedChars.{Quotes, item_quotes}}
pub use Rattle.yaml_recognizers.proofs.OneStyle.{QuotedChars.{long_number, unshown_low}, Spelled.{pair_spelled, word_flow_spelled}}
pub use Rattle.yaml_recognizers.proofs.OneStyle.{Spelled.{two_more, item_regrouped, pair_regrouped}, StyleRead.Unambiguous}
pub use Rattle.{yaml_recognizers.specs.StyleLaws.CanReadAs, yaml_writer.proofs.QuotedLemmas.{Spells, run_boundary, spelled_run}}
pub use Rattle.yaml_writer.proofs.QuotedLemmas.{spelled_one}
