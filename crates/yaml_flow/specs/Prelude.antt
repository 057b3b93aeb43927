-- What the definitions and the code of this crate name of others.
pub use Rattle.std.specs.{Cow.{cow_str_bytes, IsBorrowedStr}, Str.{IsCharBoundary, chars}}
pub use Rattle.yaml_chars.specs.{Places.{rest, between}, Signs.{question, open_bracket, open_brace}}
pub use Rattle.yaml_events.specs.{Borrowed.BorrowsPlain, EventPlaces.{line_starts, Refuses}, Meant.{events_of, style_of, context_of}}
pub use Rattle.yaml_events.specs.{Meant.event_of, declared.event.Event.{Event, TheVariants.{MapStart, Scalar}}}
pub use Rattle.yaml_grammar.specs.FlowNodes.{Flow, flow_events, flow_text, entry_text, entry_events, asked_text, is_plain, key_limit}
pub use Rattle.yaml_grammar.specs.{FlowNodes.short_key, FlowScalars.{FlowContext, one_line, in_flow}, Texts.{byte_len, starts_line, first}}
pub use Rattle.yaml_recognizers.specs.{Ends.is_colon, FlowFrames.{FlowPart, first_node, asked_key, pair_value, Bracket, OpenFlow, closer}}
pub use Rattle.yaml_recognizers.specs.{FlowFrames.{close_with, entries_of, plug}, FlowNodes.{key_is_short, entry_if_short, is_asked}}
pub use Rattle.yaml_recognizers.specs.{FlowNodes.ends_entry, Recognizers.{flow_node_at, flow_entries_at, flow_value_at}}
pub use Rattle.{yaml_recognizers.specs.StandingNodes.{IsFlowNode, NoFlowNode}, yaml_scan.specs.ScanPlaces.unbroken_between}
