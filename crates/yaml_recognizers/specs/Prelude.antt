-- What the definitions and the code of this crate name of others.
pub use Rattle.std.specs.{List.{All, list_all, concat}, Str.{chars, IsUtf8}}
pub use Rattle.yaml_chars.specs.{Classes.{white, in_range, nb, ns, line_break, is_in, space, nb_json}, Signs.{colon, dash, greater}}
pub use Rattle.yaml_chars.specs.Signs.{question, vertical_bar, digit_zero, plus, number_sign, carriage_return, line_feed, close_brace}
pub use Rattle.yaml_chars.specs.Signs.{close_bracket, comma, open_brace, open_bracket, double_quote, single_quote, backslash, space_char}
pub use Rattle.{yaml_chars.specs.Signs.{byte_order_mark, dot, percent_sign}, yaml_grammar.specs.BlockNodes.{items, pairs, Items, item_and}}
pub use Rattle.yaml_grammar.specs.BlockNodes.{Pairs, pair_and, Pair, asked, keyed, keyed_alone, Indented, compact_items, compact_pairs}
pub use Rattle.yaml_grammar.specs.BlockNodes.{node, omitted, Node, block, flow, item, pair, asked_alone, is_omitted, node_text, items_text}
pub use Rattle.yaml_grammar.specs.BlockNodes.{pairs_text, indented_text, pair_text, node_fits, node_end, node_events}
pub use Rattle.yaml_grammar.specs.BlockScalars.{BlockScalar, spaces_before, past_spaces, Chomping, Header, Body, header_text, body_text}
pub use Rattle.yaml_grammar.specs.BlockScalars.{block_text, bare_block_text, header_fits, body_fits, block_fits, block_events, block_value}
pub use Rattle.yaml_grammar.specs.BlockScalars.{BlockEmptyLine, TextLine, clip, goes_on, keep, last_spaces, sets_none, strip, widest}
pub use Rattle.yaml_grammar.specs.{BlockScalars.chomping_text, Closings.{ClosesAt, ClosesOnce, Pieces}, Events.{Event, document_start}}
pub use Rattle.yaml_grammar.specs.{Events.{document_end, seq_start, seq_end, map_start, map_end, scalar_event, Style}, FlowNodes.Flow}
pub use Rattle.yaml_grammar.specs.FlowNodes.{short_key, flow_text, scalar, seq, map, Entries, none, last, next, Entry, entry, Value, absent}
pub use Rattle.yaml_grammar.specs.FlowNodes.{empty, given, entries_text, value_text, is_plain, before_colon, single_pair, asked_text}
pub use Rattle.yaml_grammar.specs.{FlowNodes.{entry_text, flow_fits, flow_events}, FlowScalars.{FlowContext, outer, block_key, Scalar}}
pub use Rattle.yaml_grammar.specs.FlowScalars.{flow_key, in_flow, one_line, safe, scalar_fits, inner, plain, single, double, scalar_text}
pub use Rattle.yaml_grammar.specs.FlowScalars.{FlowEmptyLine, Line, flow_empties_text, plain_first, plain_next, QuotedChar, raw, escape}
pub use Rattle.yaml_grammar.specs.FlowScalars.{number, digits_after, quoted_char_fits, line_feeds, folded_break, flow_fold, scalar_value}
pub use Rattle.yaml_grammar.specs.{FlowScalars.style_of, Reads.{CanRead, Limits, Good, Gives, Presents, Reads}, Separation.{LineEnd, Sep}}
pub use Rattle.yaml_grammar.specs.Separation.{inline, lines, sep_text, indents, Break, comments_text, comments_fit, gap_text, line_end_text}
pub use Rattle.yaml_grammar.specs.{Separation.{comment_line_fits, cr, cr_lf, lf, break_text}, Streams.{Stream, stream_text, fits}}
pub use Rattle.yaml_grammar.specs.Streams.{stream_events, Explicit, content, nothing, Document, bare, explicit, directed, explicit_text}
pub use Rattle.yaml_grammar.specs.Streams.{document_text, document_events, suffix_text, mark_text, Part, suffixes, further, line}
pub use Rattle.yaml_grammar.specs.{Streams.{directive_text, part_text, parts_text, Version, yaml_1_1, yaml_1_2}, Style.style_text}
pub use Rattle.yaml_grammar.specs.Texts.{is_empty, first, starts_line, spaces, byte_len, marker, begins, no_marker, optional, ends_word}
pub use Rattle.yaml_grammar.specs.{Texts.IsText, Trees.{Tree, IsTextTree, IsTreeOf}}
