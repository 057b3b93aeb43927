-- What the proofs of this crate name of others.
pub use Rattle.std.proofs.lemmas.Bool.{and_right, false≢true, and_left, le-leb, lt-leb, ne_eqb, and_from, cond-true, cond-false, le-ltb}
pub use Rattle.std.proofs.lemmas.Bool.{lt-ltb, or_from, or_left, or_right, and_parts, cond_both, cases_Bool, cases_lt, eq-eqb}
pub use Rattle.std.proofs.lemmas.{Bool.Decides.nat_tests, List.append_cancel_right, Str.{chars-nil, IsCharBoundary-start, chars-append}}
pub use Rattle.std.{proofs.lemmas.Str.{chars-IsAscii, IsCharBoundary-after_ascii, IsUtf8-string_bytes}, specs.Cow.cow_str_bytes}
pub use Rattle.std.specs.{Cow.IsBorrowedStr, Str.{IsUtf8, chars, IsCharBoundary, IsAscii}, String.string_bytes}
pub use Rattle.yaml_chars.proofs.{Places.{between-append, rest-between, char_at, rest-end, between-nil}, Runs.IsBlind}
pub use Rattle.yaml_chars.specs.{Classes.{line_break, in_range, nb, white}, Places.{between, rest}}
pub use Rattle.{yaml_events.specs.EventPlaces.{line_starts, without_mark, Refuses}, yaml_grammar.specs.BlockScalars.{Chomping, strip, clip}}
pub use Rattle.yaml_grammar.specs.BlockScalars.{keep, BlockEmptyLine, TextLine, block_value, trailing_line_feeds, goes_on}
pub use Rattle.yaml_grammar.specs.BlockScalars.{value_without_lines, text_value, Body, spaces_before, widest, Header, last_spaces}
pub use Rattle.yaml_grammar.specs.BlockScalars.{past_spaces, sets_none, body_text, block_empty_text, block_empties_text, text_line_fits}
pub use Rattle.yaml_grammar.specs.{BlockScalars.{text_line_text, text_lines_fit, text_lines_text, between_lines}, FlowScalars.line_feeds}
pub use Rattle.yaml_grammar.specs.{FlowScalars.folded_break, Separation.{LineEnd, Break, break_text, cr, cr_lf, lf, stop_fits}}
pub use Rattle.yaml_grammar.specs.Texts.{begins, is_empty, first, marker, optional, spaces, starts_line, no_marker}
pub use Rattle.yaml_recognizers.proofs.Basics.{Reading.{on_parts, some_parts, sound_is}, Spaces.{at_most, goes_on_text}}
pub use Rattle.yaml_recognizers.proofs.BlockScalars.BlockScalarFacts.{body_found, body_is, no_body, header_is, no_header}
pub use Rattle.yaml_recognizers.proofs.BlockScalars.{BlockScalarSteps.{lines_step, empties_step, empties_stop}, EmptyLines.empties_of_sound}
pub use Rattle.yaml_recognizers.specs.{BlockScalarFacts.{BodyStands, IsBody, NoBody, IsHeader, NoHeader}, BlockScalars.body_at}
pub use Rattle.yaml_recognizers.specs.BlockScalars.{find_indent, empties_at, lines_at, read_body, read_text_line, all_empties, empties_of}
pub use Rattle.yaml_recognizers.specs.{BlockScalars.{read_digit, read_mark, after_digit, read_header, read_header_end}, Comments.read_break}
pub use Rattle.{yaml_recognizers.specs.{Comments.{read_line_end, read_stop}, Reading.{Read, on}}, yaml_scan.proofs.ByteRuns.ascii_prefix}
pub use Rattle.yaml_scan.proofs.{ByteRuns.{first_at_end, first_there, spaces_dropped_at}, Outcomes.{fault_passed, faults_so, ok_so}}
pub use Rattle.yaml_scan.specs.{Lines.{IsLineEnd, IsLineStart}, ScanPlaces.{AreSpaces, IsBreak, IsNb, AreTaken, IsStop}}
