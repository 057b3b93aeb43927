-- What the definitions and the code of this crate name of others.
pub use Rattle.std.specs.Str.{chars}
pub use Rattle.{yaml_chars.specs.Signs.{digit_zero, digit_one, tilde}, yaml_grammar.specs.Texts.{first, is_empty}}
