-- What the proofs of this crate name of others.
pub use Rattle.std.proofs.lemmas.Bool.{and_left, and_right, eqb-true, false≢true, or_cases, and_cases, and_from, cases_Bool, le-leb}
pub use Rattle.std.proofs.lemmas.Bool.{leb-true, not-false, and_parts, not-true, cases_eq, lt-ltb, not_from_false, or_from, or_parts}
pub use Rattle.std.proofs.lemmas.Bool.{or_right, not_from_true, or_left, le-ltb, ne_eqb, cases_lt, eq-eqb, Decides.nat_tests}
pub use Rattle.std.proofs.lemmas.{List.{map-append, append-nil, length-append, append_cancel_right}, Result.err_from_is_err_and}
pub use Rattle.std.specs.{Cow.cow_str_bytes, List.{list_all, All, insert}, Str.{IsCharBoundary, IsUtf8, chars}}
pub use Rattle.yaml_chars.proofs.Places.{rest-end, char_at, between-append, same_place, encodes-rest, rest-ascii, rest-between}
pub use Rattle.yaml_chars.specs.{Breaks.no_break, Classes.{white, line_break, nb}, Places.{rest, between, IsRun}}
pub use Rattle.yaml_events.specs.{Borrowed.BorrowsPlain, EventPlaces.{line_starts, without_mark}, Meant.{event_of, style_of, events_of}}
pub use Rattle.yaml_events.specs.declared.event.Event.{Event, TheVariants.{Scalar, MapStart, SeqStart, SeqEnd, MapEnd}}
pub use Rattle.{yaml_events.specs.declared.fault.ScanFault.ScanFault, yaml_flow.proofs.ScalarKinds.{double_there, single_there}}
pub use Rattle.yaml_flow.{proofs.ScalarKinds.scalar_read, specs.FlowNodes.{Appended, FlowNodeRead, NoFlowNodeFound}}
pub use Rattle.yaml_flow_scalars.{proofs.InsideLines.ends_inside_line, specs.{PlainPlaces.{NoNextLine, IsFirstLine}, Standing.ScalarAt}}
pub use Rattle.yaml_grammar.specs.BlockNodes.{Indented, Node, Pair, block, flow, node, Items, Pairs, items, pairs, compact_items}
pub use Rattle.yaml_grammar.specs.BlockNodes.{compact_pairs, omitted, asked, asked_alone, indented_end, indented_events, indented_text}
pub use Rattle.yaml_grammar.specs.BlockNodes.{item, items_end, items_events, items_text, keyed, keyed_alone, node_events, node_text, pair}
pub use Rattle.yaml_grammar.specs.BlockNodes.{pair_end, pair_events, pair_text, pairs_end, pairs_events, pairs_text}
pub use Rattle.yaml_grammar.specs.BlockScalars.{past_spaces, spaces_before, BlockScalar, Body, Chomping, Header, bare_block_text}
pub use Rattle.yaml_grammar.specs.{BlockScalars.{block_events, block_text, block_value, goes_on}, Events.{folded_style, literal_style}}
pub use Rattle.yaml_grammar.specs.Events.{scalar_event, map_start, plain_style, seq_start, omitted_at, as_map, as_seq, map_end, seq_end}
pub use Rattle.yaml_grammar.specs.{FlowNodes.{Flow, flow_text, short_key, flow_events}, FlowScalars.{block_key, outer, Line, plain}}
pub use Rattle.yaml_grammar.specs.{FlowScalars.{FlowContext, plain_first}, Separation.{LineEnd, Sep, comments_text, indents, sep_text}}
pub use Rattle.yaml_grammar.specs.{Separation.{line_end_text, inline}, Texts.{first, begins, is_empty, spaces, starts_line, byte_len}}
pub use Rattle.{yaml_grammar.specs.Texts.{optional, marker, no_marker}, yaml_recognizers.proofs.Basics.LineStarts.starts_joined}
pub use Rattle.yaml_recognizers.proofs.Basics.{LineStarts.byte_len_joined, Prefixes.{take_while_every, take_while_split, spaces_split}}
pub use Rattle.yaml_recognizers.proofs.Basics.{Reading.{Sound, none_some, chosen, on_parts, some_parts}, Solid.{head_of, dash_unmarked}}
pub use Rattle.yaml_recognizers.proofs.Basics.Solid.{unsolid_sign, white_unsolid, sign_head, sign_solid, plain_solid, marker_first}
pub use Rattle.yaml_recognizers.proofs.Basics.Spaces.{marker_unspaced, none_spaced, Ended, ended_parts, spaced_unmarked}
pub use Rattle.yaml_recognizers.proofs.Block.BlockFrames.{asked_opens, key_opens, no_key, items_open, node_after_sign, unwind_none}
pub use Rattle.yaml_recognizers.proofs.Block.BlockFrames.{asked_for_nothing, sequence_on_sign_line, asked_for_alone, item_last, item_next}
pub use Rattle.yaml_recognizers.proofs.Block.{BlockFrames.{pair_last, pair_next}, BlockNodesBegin.{lead_deep, comments_closed}}
pub use Rattle.yaml_recognizers.proofs.Block.{BlockNodesSound.tail_fit, KeyLeaves.{is_key, leaf_is_key, leaf_no_key, no_leaf_no_key}}
pub use Rattle.yaml_recognizers.proofs.BlockScalars.BlockScalarFacts.{blocks_read, body_found, body_is, digit_first, header_found}
pub use Rattle.yaml_recognizers.proofs.{BlockScalars.BlockScalarFacts.header_is, Flow.{FlowNodesFound.stands, OneLineText.flow_one_line}}
pub use Rattle.yaml_recognizers.proofs.{Flow.OneLineText.unbroken, Meanings.EventPrefixes.{done_pairs_events, done_items_end}}
pub use Rattle.yaml_recognizers.proofs.Meanings.EventPrefixes.{done_items_events, done_pairs_end, item_place, items_end_last, items_prefix}
pub use Rattle.yaml_recognizers.proofs.Meanings.{EventPrefixes.{pair_place, pairs_end_last, pairs_prefix}, StandingNodes.block_only}
pub use Rattle.yaml_recognizers.proofs.Meanings.{StandingNodes.block_missing, Steps.{indented_steps, node_steps}}
pub use Rattle.yaml_recognizers.proofs.{Scalars.PlainSteps.{no_more_lines, no_line_no_join}, Separation.CommentsComplete.no_comments}
pub use Rattle.yaml_recognizers.proofs.Separation.{CommentsComplete.{solid_no_line, no_line}, CommentsDepth.comments_step}
pub use Rattle.yaml_recognizers.proofs.Separation.CommentsSound.{LineOf, all_sound, line_sound, shorter, CommentsOf, comments_end}
pub use Rattle.yaml_recognizers.{proofs.Separation.CommentsSound.no_line_end, specs.BlockFrames.{Sits, close_pairs, key_on_line}}
pub use Rattle.yaml_recognizers.specs.BlockFrames.{keyed_part, plug, waits_key, waits_value, close_items, on_lines, waits_item}
pub use Rattle.yaml_recognizers.specs.BlockFrames.{on_sign_line, BlockFrame, PairKey, key_asked, unwind, items_part, joined_items}
pub use Rattle.yaml_recognizers.specs.{BlockFrames.{joined_pairs, pair_with, pairs_after, pairs_part}, BlockNodes.{bar, flow_with}}
pub use Rattle.yaml_recognizers.specs.BlockNodes.{key_after, opens_pair, leaf_at, node_below, sep_at, indented_node, omits}
pub use Rattle.yaml_recognizers.specs.{BlockScalarFacts.{IsBody, IsHeader, NoBody, NoHeader}, BlockScalars.{read_block, block_of}}
pub use Rattle.yaml_recognizers.specs.{BlockScalars.{read_body, read_header, read_trail, trail_here}, CanonicalComments.is_line_end}
pub use Rattle.yaml_recognizers.specs.{CanonicalComments.{canonical_comments, hash}, Comments.{all_comments, closes_line, more_comments}}
pub use Rattle.yaml_recognizers.specs.{Comments.read_line_end, Ends.{solid, block_node_stops, less_deep}}
unfoldable pub use Rattle.yaml_recognizers.specs.FlowScalars.{scalar_ends, read_scalar}
pub use Rattle.yaml_recognizers.specs.PlainScalars.{read_plain_line}
unfoldable pub use Rattle.yaml_recognizers.specs.PlainScalars.{plain_ends, read_plain}
pub use Rattle.yaml_recognizers.specs.{Prefixes.{drop_while, past, sign, take_while}, Reading.{Read, on}, Recognizers.StandsFlow}
pub use Rattle.yaml_recognizers.specs.Recognizers.{block_indented_at, block_key_in, block_pairs_at, flow_leaf_at, flow_node_at}
pub use Rattle.{yaml_recognizers.specs.Recognizers.{block_items_at, block_node_at}, yaml_scan.proofs.ByteSigns.{IsSign, sign_there}}
pub use Rattle.yaml_scan.proofs.{LineSteps.{no_comments_at, open_line, closes_after_end, line_after_end}, Outcomes.{faults_so, ok_so}}
pub use Rattle.yaml_scan.{proofs.Outcomes.{some_so, fault_passed, refuses, fault_kept}, specs.Lines.{IsSolidLine, IsLineStart, IsLineEnd}}
pub use Rattle.yaml_scan.specs.ScanPlaces.{AreTaken, is_sign, AreSpaces}
