-- What the definitions and the code of this crate name of others.
pub use Rattle.std.specs.{List.{insert, position_or_len}, Str.{chars, IsCharBoundary}}
pub use Rattle.{yaml_chars.specs.{Classes.{white, line_break}, Signs.{line_feed, carriage_return}}, yaml_config.specs.Limits.config_limits}
pub use Rattle.{yaml_grammar.specs.Texts.{byte_len, same_text, first, is_empty}, yaml_tree.specs.Reading.{IsRead, Refuses}}
