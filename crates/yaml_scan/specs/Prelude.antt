-- What the definitions and the code of this crate name of others.
pub use Rattle.std.specs.Str.{IsCharBoundary, chars}
pub use Rattle.yaml_chars.specs.{Breaks.no_break, Classes.{is_in, nb, nb_json, white, line_break, space, ns}, Places.{rest, between, IsRun}}
pub use Rattle.{yaml_chars.specs.Signs.{single_quote, dash, dot, space_char}, yaml_events.specs.EventPlaces.{line_starts, Refuses}}
pub use Rattle.{yaml_events.specs.Meant.context_of, yaml_grammar.specs.FlowScalars.{FlowContext, outer, inner, safe, one_line, line_feeds}}
pub use Rattle.yaml_grammar.specs.{Separation.{Sep, gap_text, indents, LineEnd, comment_text, Break}, Texts.{is_empty, starts_line, first}}
pub use Rattle.{yaml_grammar.specs.Texts.{optional, marker}, yaml_recognizers.specs.Comments.{all_comments, read_stop, line_end_with_stop}}
pub use Rattle.yaml_recognizers.specs.{Comments.{read_line_end, read_break, closes_line}, Ends.solid, Prefixes.{take_while, drop_while}}
pub use Rattle.yaml_recognizers.specs.Prefixes.{past, sign}
