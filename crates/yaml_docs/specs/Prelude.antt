-- What the definitions and the code of this crate name of others.
pub use Rattle.std.specs.{Io.KnownBytes.{Consumes, IsAtEnd, Appends, ReadConsumes}, List.{All, list_all}, Str.{IsCharBoundary, chars}}
pub use Rattle.std.specs.Str.{IsUtf8, Lossy.utf8_valid_len}
pub use Rattle.{yaml_chars.specs.{Places.rest, Signs.{dash, dot}}, yaml_events.specs.{Borrowed.BorrowsPlain, EventPlaces.line_starts}}
pub use Rattle.{yaml_events.specs.{EventPlaces.Refuses, Meant.events_of, declared.event.Event.Event}, yaml_flow.specs.FlowNodes.Appended}
pub use Rattle.yaml_grammar.specs.{BlockNodes.{Node, node_events}, Closings.{ClosesAt, ClosesOnce, ends_line}, Reads.{Presents, Reads}}
pub use Rattle.yaml_grammar.specs.{Separation.LineEnd, Streams.{directed, directive_text, Version, version_text, Document, Explicit}}
pub use Rattle.yaml_grammar.specs.{Streams.{content, nothing, document_events, explicit_events, Stream, bare, explicit}, Texts.byte_len}
pub use Rattle.{yaml_grammar.specs.Texts.{first, begins}, yaml_recognizers.specs.{BlockNodes.omits, CanonicalStreams.{suffix, FlatStream}}}
pub use Rattle.yaml_recognizers.specs.{CanonicalStreams.{section_events, sections_events, flat_events}, Comments.all_comments, Reading.Read}
pub use Rattle.yaml_recognizers.specs.{Reading.on, Recognizers.{document_node_at, section_at, sections_at, stream_at}}
pub use Rattle.yaml_recognizers.specs.Streams.{directed_with, read_directed, read_explicit, explicit_with, order_mark, suffix_with}
pub use Rattle.{yaml_recognizers.specs.Streams.marker_of, yaml_scan.specs.Lines.IsLineStart}
