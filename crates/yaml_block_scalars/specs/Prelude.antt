-- What the definitions and the code of this crate name of others.
pub use Rattle.std.specs.{Cow.{cow_str_bytes, IsBorrowedStr}, Str.{IsCharBoundary, chars}}
pub use Rattle.{yaml_chars.specs.Places.{rest, between}, yaml_events.specs.EventPlaces.Refuses, yaml_grammar.specs.BlockScalars.Body}
pub use Rattle.yaml_grammar.specs.BlockScalars.{BlockEmptyLine, TextLine, block_value, Chomping, digit_fits, trailing_line_feeds, goes_on}
pub use Rattle.yaml_grammar.specs.BlockScalars.{spaces_before, past_spaces, text_value, widest, value_without_lines, block_empties_text}
pub use Rattle.yaml_grammar.specs.{BlockScalars.between_lines, FlowScalars.line_feeds, Separation.{LineEnd, break_text}, Texts.first}
pub use Rattle.{yaml_grammar.specs.Texts.{begins, is_empty, optional}, yaml_recognizers.specs.BlockScalarFacts.{IsHeader, IsBody}}
pub use Rattle.yaml_recognizers.specs.{BlockScalarFacts.{BodyStands, NoHeader, NoBody}, BlockScalars.{empties_at, lines_at, read_digit}}
pub use Rattle.yaml_recognizers.specs.BlockScalars.{read_mark, after_digit, header_at, read_header_end, all_empties, find_indent}
pub use Rattle.{yaml_recognizers.specs.Reading.{on, Read}, yaml_scan.specs.Lines.IsLineStart}
