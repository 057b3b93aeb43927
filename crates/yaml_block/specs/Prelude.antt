-- What the definitions and the code of this crate name of others.
pub use Rattle.std.specs.Str.{IsCharBoundary}
pub use Rattle.{yaml_block_scalars.specs.Meant.least_indent, yaml_chars.specs.{Places.{rest, between}, Signs.{colon, dash, question}}}
pub use Rattle.{yaml_events.specs.{EventPlaces.{line_starts, Refuses}, declared.event.Event.Event}, yaml_flow.specs.FlowNodes.Appended}
pub use Rattle.{yaml_flow.specs.FlowNodes.FlowNodeRead, yaml_flow_scalars.specs.PlainPlaces.IsFirstLine, yaml_grammar.specs.BlockNodes.Node}
pub use Rattle.yaml_grammar.specs.BlockNodes.{block, Indented, node, node_events, Pair, compact_items, compact_pairs, omitted, is_omitted}
pub use Rattle.yaml_grammar.specs.BlockNodes.{indented_text, indented_end, indented_events, pair_text, pair_end, pair_events}
pub use Rattle.yaml_grammar.specs.{BlockScalars.{goes_on, past_spaces, spaces_before}, Events.{seq_start, map_start, plain_style}}
pub use Rattle.yaml_grammar.specs.{FlowNodes.{Flow, flow_text, flow_events, key_limit}, FlowScalars.{block_key, FlowContext, outer}}
pub use Rattle.yaml_grammar.specs.{Separation.{LineEnd, Sep, inline, lines, comments_text, sep_text}, Texts.{first, is_empty, starts_line}}
pub use Rattle.{yaml_grammar.specs.Texts.byte_len, yaml_recognizers.specs.BlockFrames.{Sits, close_pairs, on_sign_line, on_lines, PairKey}}
pub use Rattle.yaml_recognizers.specs.BlockFrames.{key_asked, key_on_line, BlockFrame, waits_item, waits_key, waits_value, pairs_after}
pub use Rattle.yaml_recognizers.specs.{BlockFrames.{keyed_part, unwind}, BlockNodes.{bar, flow_with, indented_node, opens_pair, node_below}}
pub use Rattle.yaml_recognizers.specs.{BlockScalars.{read_block, read_trail}, CanonicalComments.is_line_end, Comments.all_comments}
pub use Rattle.yaml_recognizers.specs.{Comments.closes_line, Ends.block_node_stops, Prefixes.sign, Reading.{Read, on}}
pub use Rattle.yaml_recognizers.specs.Recognizers.{block_indented_at, block_key_in, block_node_at, block_pairs_at, flow_leaf_at}
pub use Rattle.{yaml_recognizers.specs.Recognizers.{flow_node_at, block_items_at}, yaml_scan.specs.Lines.{IsLineStart, IsSolidLine}}
pub use Rattle.yaml_scan.specs.ScanPlaces.{AreTaken, unbroken_between, AreSpaces}
