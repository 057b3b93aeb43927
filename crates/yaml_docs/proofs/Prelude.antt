-- What the proofs of this crate name of others.
pub use Rattle.memchr.{proofs.lemmas.MatchLemmas.{OccursAt-split, OccursAt-from_part}, specs.Find.OccursAt}
pub use Rattle.std.proofs.{Math.Seq.{take-append-add, drop-append_seam, take-append_seam}, lemmas.Bool.{cases_lt, cases_order, and_from}}
pub use Rattle.std.proofs.lemmas.Bool.{and_parts, cases_Bool, eqb-true, false≢true, or_left, or_right, ltb-true, Decides.nat_tests}
pub use Rattle.std.proofs.lemmas.{Bool.Decides.Decides-eqb, List.{drop-append-le, take-append-le, append-nil, append_cancel_right}}
pub use Rattle.std.proofs.lemmas.{List.{take-take, drop-take, drop-drop, take_all, take_rest}, Result.err_from_is_err_and}
pub use Rattle.std.proofs.lemmas.{Slice.Eq.{starts_is, strip_suffix_is}, Str.{len_utf8_bounds, IsCharBoundary-start, length-encode}}
pub use Rattle.std.proofs.lemmas.Str.{IsUtf8-from_ascii, chars-IsAscii, chars-append, encodes-IsAscii, encodes-append, encodes-chars}
pub use Rattle.std.{proofs.lemmas.Str.IsUtf8-drop, specs.{Io.KnownBytes.{Appends, Consumes}, List.{All, list_all, starts_with}}}
pub use Rattle.std.specs.Str.{IsCharBoundary, IsUtf8, chars, IsAscii}
pub use Rattle.{yaml_block.specs.Found.BlockNodeRead, yaml_chars.proofs.Places.{char_at, rest-start, code_points-chars, rest-end, IsSplit}}
pub use Rattle.yaml_chars.{proofs.Places.{between-append, encodes-rest, rest-between, same_place, split_at}, specs.Places.{between, rest}}
pub use Rattle.yaml_events.specs.{Borrowed.BorrowsPlain, EventPlaces.{line_starts, without_mark, Refuses}, Meant.{event_of, events_of}}
pub use Rattle.{yaml_events.specs.declared.event.Event.Event, yaml_flow.proofs.Appends.{appended_none, appended_one, appended_then}}
pub use Rattle.{yaml_flow.proofs.Appends.appended_means, yaml_grammar.specs.{BlockNodes.{Node, node_events, node_text}, Closings.ends_line}}
pub use Rattle.yaml_grammar.specs.{Closings.{ClosesAt, ClosesOnce}, Events.{as_document, document_end, omitted_style, scalar_event}}
pub use Rattle.yaml_grammar.specs.{Reads.{Presents, Reads}, Separation.{LineEnd, comments_text, line_end_text}, Streams.directed}
pub use Rattle.yaml_grammar.specs.Streams.{directive_text, Version, yaml_1_1, yaml_1_2, version_text, Document, Explicit, bare, content}
pub use Rattle.yaml_grammar.specs.Streams.{explicit, explicit_events, nothing, Stream, mark_text, stream_text, stream_events}
pub use Rattle.yaml_grammar.specs.Texts.{begins, byte_len, is_empty, marker, first, starts_line, IsText}
pub use Rattle.yaml_recognizers.proofs.Basics.{LineStarts.{line_not_end, line_or_end, byte_len_joined, starts_joined}, Reading.Sound}
pub use Rattle.yaml_recognizers.proofs.Basics.Reading.{sound_is, chosen, none_some, on_parts, some_parts}
pub use Rattle.yaml_recognizers.proofs.{BlockScalars.BlockScalarFacts.blocks_read, Documents.StreamsComplete.{begins_split, section_long}}
pub use Rattle.yaml_recognizers.proofs.{Documents.StreamsComplete.section_some, Meanings.Meaning.{form_found, reading_found, text_reads}}
pub use Rattle.yaml_recognizers.proofs.{Meanings.Steps.{stream_steps, sections_steps}, Scalars.ScalarsInNodes.reads_scalars}
pub use Rattle.yaml_recognizers.proofs.Separation.CommentsSound.{all_sound, LineOf, line_is_end, line_sound}
pub use Rattle.yaml_recognizers.specs.{BlockScalars.read_block, CanonicalComments.is_line_end, CanonicalStreams.{document, suffix, Section}}
pub use Rattle.yaml_recognizers.specs.CanonicalStreams.{FlatStream, flat_events, opens, section_events, section_text, line}
pub use Rattle.yaml_recognizers.specs.{Comments.{all_comments, closes_line, more_comments, read_line_end}, FlowScalars.read_scalar}
pub use Rattle.yaml_recognizers.specs.{Reading.{Read, on}, Recognizers.{document_node_at, sections_at, stream_at, section_at}}
pub use Rattle.yaml_recognizers.specs.Streams.{directed_with, read_directed, read_version, explicit_with, marker_of, suffix_with}
pub use Rattle.yaml_recognizers.specs.Streams.{order_mark, with_mark, percent, section_and}
unfoldable pub use Rattle.yaml_recognizers.specs.Streams.{read_explicit, read_section}
pub use Rattle.yaml_scan.proofs.{LineStarts.{starts_after, starts_at_beginning}, Outcomes.{none_so, fault_passed, faults_so, ok_so}}
pub use Rattle.yaml_scan.specs.{Lines.{IsLineStart, IsSolidLine}, declared.lines.Line.Line}
