-- What the definitions and the code of this crate name of others.
pub use Rattle.std.specs.{Cow.{cow_str_bytes, IsBorrowedStr}, List.{AllPass, list_all}, Str.{IsCharBoundary, chars}, String.string_bytes}
pub use Rattle.std.specs.declared.borrow.CowStr.{CowStr}
pub use Rattle.yaml_chars.specs.{Breaks.no_break, Classes.{line_break, white, ns, in_range, nb_json, is_in}, Places.{rest, between, IsRun}}
pub use Rattle.{yaml_chars.specs.Signs.{backslash, double_quote, colon}, yaml_events.specs.EventPlaces.{line_starts, Refuses}}
pub use Rattle.{yaml_events.specs.Meant.context_of, yaml_grammar.specs.Events.{plain_style, Style, double_style, single_style}}
pub use Rattle.yaml_grammar.specs.FlowScalars.{FlowContext, QuotedChar, raw, escape, hex_digit, digit_of, hex_value, quoted_char_fits}
pub use Rattle.yaml_grammar.specs.FlowScalars.{quoted_char_value, escaped_char, line_feeds, folded_break, FlowEmptyLine, ends, Line}
pub use Rattle.yaml_grammar.specs.FlowScalars.{plain_first, plain_next, line_value, char_value, one_line, Scalar, style_of, digits_after}
pub use Rattle.{yaml_grammar.specs.Texts.{no_marker, first}, yaml_recognizers.specs.Joins.{after_blank, read_join, Join, read_empty}}
pub use Rattle.yaml_recognizers.specs.QuotedScalars.{read_held, read_quoted, read_item, double_closes, quote, read_single_one}
pub use Rattle.yaml_recognizers.specs.{QuotedScalars.single_closes, QuotedSteps.{quoted_value, with_prefix}, Reading.Read}
