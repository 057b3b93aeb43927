-- What the proofs of this crate name of others.
pub use Rattle.std.proofs.lemmas.Bool.{and_parts, cases_Bool, false≢true, cases_lt, and_from, or_parts, Decides.nat_tests}
pub use Rattle.std.proofs.lemmas.List.{append-nil, map-append, append_cancel_right, length-append, take-append-le, Elements.All-append}
pub use Rattle.std.proofs.lemmas.{List.Elements.{All-cons, All-nil, All-push, All-same, All-weaker, All-pop}, Result.err_from_is_err_and}
pub use Rattle.std.specs.{Char.len_utf8, Cow.{cow_str_bytes, IsBorrowedStr}, List.{list_all, All}, Str.{IsUtf8, IsCharBoundary, chars}}
pub use Rattle.yaml_chars.proofs.Places.{rest-end, between-append, between-nil, rest-between, same_place, split_at, char_at}
pub use Rattle.{yaml_chars.specs.{Classes.line_break, Places.{rest, between}}, yaml_events.specs.Borrowed.BorrowsPlain}
pub use Rattle.yaml_events.specs.{EventPlaces.line_starts, Meant.{event_of, events_of, style_of, context_of}}
pub use Rattle.{yaml_events.specs.declared.event.Event.TheVariants.MapStart, yaml_flow_scalars.specs.Standing.{ScalarAt, NoScalarAt}}
pub use Rattle.yaml_grammar.specs.Events.{Event, map_start, omitted_at, map_end, omitted_style, scalar_event, plain_style, double_style}
pub use Rattle.yaml_grammar.specs.{Events.single_style, FlowNodes.{Flow, entry, Value, absent, empty, given, is_plain, asked_text}}
pub use Rattle.yaml_grammar.specs.FlowNodes.{flow_events, flow_text, Entries, value_text, value_events, entry_text, entry_events}
pub use Rattle.yaml_grammar.specs.FlowNodes.{entries_events, has_colon, is_pair, Entry, none, last, scalar, before_colon, short_key}
pub use Rattle.yaml_grammar.specs.{FlowScalars.{FlowContext, flow_key, one_line, outer, inner, block_key, in_flow, safe}, Separation.Sep}
pub use Rattle.yaml_grammar.specs.{Separation.gap_text, Texts.{byte_len, starts_line, first, is_empty, no_marker}}
pub use Rattle.yaml_recognizers.proofs.{Basics.Reading.{on_parts, some_parts, chosen, none_some}, Flow.FlowFrames.asked_for_nothing}
pub use Rattle.yaml_recognizers.proofs.Flow.FlowFrames.{comma_after, entry_begins, entry_is_asked, is_scalar, last_entry, no_entry}
pub use Rattle.yaml_recognizers.proofs.Flow.{FlowFrames.{opens_map, opens_seq}, FlowNodesFound.stands, OneLineText.unbroken}
pub use Rattle.yaml_recognizers.proofs.{Flow.OneLineText.{unbroken_joined, gap_one_line, flow_one_line}, Separation.GapsSound.gap_sound}
pub use Rattle.yaml_recognizers.specs.{Ends.is_colon, FlowFrames.{FlowPart, first_node, asked_key, pair_value, Bracket, OpenFlow}}
pub use Rattle.yaml_recognizers.specs.FlowFrames.{close_with, entries_of, entry_of, DoneEntry, entries_onto, collection_of, closer, plug}
pub use Rattle.yaml_recognizers.specs.FlowNodes.{key_is_short, is_asked, entry_if_short, ends_entry}
unfoldable pub use Rattle.yaml_recognizers.specs.FlowScalars.{read_scalar}
pub use Rattle.yaml_recognizers.specs.{Gaps.{GapRead, read_gap}, OneLine.{widens, gap_on_one_line, on_one_line}, PlainScalars.read_run}
pub use Rattle.yaml_recognizers.specs.PlainScalars.{plain_lines_at}
unfoldable pub use Rattle.yaml_recognizers.specs.PlainScalars.{read_plain}
pub use Rattle.yaml_recognizers.specs.{Prefixes.past, Reading.{on, Read, read_closing, if_fits}, Recognizers.{StandsFlow, flow_node_at}}
pub use Rattle.{yaml_recognizers.specs.Recognizers.{flow_value_at, flow_entries_at}, yaml_scan.proofs.ByteSigns.{IsSign, sign_there}}
pub use Rattle.yaml_scan.{proofs.Outcomes.{refuses, faults_so, ok_so, fault_passed, fault_kept, refuses_so}, specs.Gaps.{NoGap, stuck}}
pub use Rattle.yaml_scan.specs.{Gaps.{used_up, IsGap}, ScanPlaces.unbroken_between}
