-- What the proofs of this crate name of others.
pub use Rattle.std.proofs.Math.{Nat.{add-zero, add_assoc}, Seq.{take-append_seam, drop-append_seam, drop-append-add}}
unfoldable pub use Rattle.std.proofs.Math.Utf8.{encode}
pub use Rattle.std.proofs.lemmas.Bool.{and_parts, cases_Bool, false≢true, and_left, cond_both, eqb-true, not_from_false, or_left, or_right}
pub use Rattle.std.proofs.lemmas.Bool.{and_from, and_right, cases_eq, ne_eqb, not-true, not_from_true, or_from, or_parts, or_cases, eq-eqb}
pub use Rattle.std.proofs.lemmas.Bool.{ltb-true, lt-ltb, le-ltb, lt-leb, not-false, le-leb, and_cases, leb-false, leb-true, cond-true}
pub use Rattle.std.proofs.lemmas.Bool.{cond-false, ltb-false, agree_below, agree_below_at, false_from_ne_true, cases_lt, Decides.nat_tests}
pub use Rattle.std.proofs.lemmas.{Grind.flat_map-append, List.{append-nil, length-replicate, append_cancel_right, Elements.All-append}}
pub use Rattle.std.proofs.lemmas.List.Elements.{All-cons, All-nil, All-head, All-tail, All-weaker, Contains-append_left}
pub use Rattle.std.{proofs.lemmas.{List.{Elements.Contains-append_right, Folds.concat-append}, Str.encodes-chars}, specs.List.list_all}
pub use Rattle.std.specs.{List.{All, concat}, Str.chars}
pub use Rattle.yaml_chars.specs.Classes.{white, line_break, space, nb, ns, printable, in_range, indicator, is_in, nb_json, code_point}
pub use Rattle.yaml_grammar.specs.BlockNodes.{Items, Node, Pair, Pairs, asked, asked_alone, block, flow, item, item_and, items, items_fit}
pub use Rattle.yaml_grammar.specs.BlockNodes.{items_text, keyed, keyed_alone, node_events, node_fits, node_text, pair, pair_and, pair_fits}
pub use Rattle.yaml_grammar.specs.BlockNodes.{pair_text, pairs, pairs_fit, pairs_text, Indented, is_omitted, node, omitted, compact_items}
pub use Rattle.yaml_grammar.specs.BlockNodes.{compact_pairs, indented_text, indented_end, indented_events, indented_fits, items_end}
pub use Rattle.yaml_grammar.specs.BlockNodes.{items_events, node_end, pair_end, pair_events, pairs_end, pairs_events}
pub use Rattle.yaml_grammar.specs.BlockScalars.{past_spaces, spaces_before, goes_on, block_fits, block_text, BlockScalar, BlockEmptyLine}
pub use Rattle.yaml_grammar.specs.BlockScalars.{block_empties_text, TextLine, text_lines_text, Body, body_text, block_empties_fit}
pub use Rattle.yaml_grammar.specs.BlockScalars.{text_lines_fit, indent_fits, body_fits, Chomping, strip, clip, keep, Header, digit_text}
pub use Rattle.yaml_grammar.specs.BlockScalars.{chomping_text, header_text, digit_fits, header_fits, block_events, bare_block_text}
pub use Rattle.yaml_grammar.specs.BlockScalars.{block_value, trail_fits, widest, text_line_fits, last_spaces, sets_none, is_detected_indent}
pub use Rattle.yaml_grammar.specs.{BlockScalars.{text_line_text, block_empty_text, text_value}, Closings.{ends_line, ClosesAt, ClosesOnce}}
pub use Rattle.yaml_grammar.specs.{Closings.Pieces, Events.{Event, scalar_event, literal_style, folded_style, document_start, document_end}}
pub use Rattle.yaml_grammar.specs.Events.{seq_start, seq_end, map_start, map_end, plain_style, double_style, single_style, omitted_style}
pub use Rattle.yaml_grammar.specs.{Events.{as_document, as_map, as_seq, omitted_at}, FlowNodes.{Flow, flow_fits, flow_text, short_key}}
pub use Rattle.yaml_grammar.specs.FlowNodes.{is_plain, map, scalar, seq, Entries, Entry, absent, empty, entry, given, last, next, none}
pub use Rattle.yaml_grammar.specs.FlowNodes.{entries_text, entry_text, single_pair, value_text, Value, before_colon, asked_text}
pub use Rattle.yaml_grammar.specs.FlowNodes.{entries_events, entries_fit, entry_events, entry_fits, flow_events, is_pair, value_events}
pub use Rattle.yaml_grammar.specs.{FlowNodes.{value_fits, has_colon}, FlowScalars.{block_key, outer, FlowContext, double, lines_after}}
pub use Rattle.yaml_grammar.specs.FlowScalars.{lines_text, one_line, plain, plain_kind, plain_line, plain_lines, plain_text, single, Scalar}
pub use Rattle.yaml_grammar.specs.FlowScalars.{line_text, in_flow, Line, flow_key, inner, plain_first, safe, scalar_fits, scalar_text}
pub use Rattle.yaml_grammar.specs.FlowScalars.{QuotedChar, quoted_char_fits, escape, hex_digit, quoted_char_text, number, plain_next}
pub use Rattle.yaml_grammar.specs.FlowScalars.{plain_run, raw, single_text, char_value, quoted_char_value, values, digit_of, hex_value}
pub use Rattle.yaml_grammar.specs.FlowScalars.{escaped_char, is_blank_char, digits_after, double_kind, quoted_lines, scalar_value}
pub use Rattle.yaml_grammar.specs.FlowScalars.{FlowEmptyLine, Kind, flow_empties_fit, flow_empties_text, flow_empty_fits, flow_empty_text}
pub use Rattle.yaml_grammar.specs.FlowScalars.{ends, join_fits, plain_more, line_value, single_kind, join_text, style_of, from_lead}
pub use Rattle.yaml_grammar.specs.{Reads.{CanRead, Presents, Reads}, Separation.{Break, break_fits, break_text, cr, cr_lf, lf, LineEnd}}
pub use Rattle.yaml_grammar.specs.Separation.{comment_line_fits, comment_text, comments_fit, comments_text, line_end_text, stop_fits, Sep}
pub use Rattle.yaml_grammar.specs.Separation.{indents, inline, lines, sep_fits, sep_text, comment_fits, line_end_fits, gap_text, gap_fits}
pub use Rattle.yaml_grammar.specs.Streams.{Explicit, Part, Stream, content, document_text, explicit_fits, explicit_text, fits, further}
pub use Rattle.yaml_grammar.specs.Streams.{line, nothing, part_fits, part_text, parts_fit, parts_text, suffix_text, suffixes, Document}
pub use Rattle.yaml_grammar.specs.Streams.{bare, directed, directive_text, document_events, explicit, explicit_events, stream_text}
pub use Rattle.yaml_grammar.specs.Streams.{document_fits, mark_text, stream_events, optional_document_events, optional_document_fits}
pub use Rattle.yaml_grammar.specs.Streams.{parts_events, suffix_fits, Version, yaml_1_1, yaml_1_2, version_text, part_events, suffixes_fit}
pub use Rattle.yaml_grammar.specs.Style.{letter, word_char, shown, hex, letter_escape, quoted_char, quoted_chars, plain_in_style}
pub use Rattle.yaml_grammar.specs.Style.{in_double_quotes, key_text, long_key, key_lines, style_text, feeds_at_end, space_or_feed}
pub use Rattle.yaml_grammar.specs.Style.{literal_in_style, shown_or_feed, literal_mark, literal_lines, scalar_lines, elements_after}
pub use Rattle.yaml_grammar.specs.{Style.{lines_after_dash, members_after, value_at, elements_at, members_at}, Texts.{first, begins}}
pub use Rattle.yaml_grammar.specs.Texts.{byte_len, is_empty, optional, starts_line, spaces, marker, ends_word, no_marker, IsText}
pub use Rattle.yaml_grammar.specs.Trees.{Tree, text, sequence, mapping, Elements, no_element, element, Members, no_member, member}
pub use Rattle.yaml_grammar.specs.Trees.{IsTextTree, AreTextElements, AreTextMembers, Shape, scalar_of, seq_to, map_to, seq_from, map_from}
pub use Rattle.yaml_grammar.specs.Trees.{shape, document_from, document_to, shapes, tree_shapes, elements_shapes, members_shapes, IsTreeOf}
