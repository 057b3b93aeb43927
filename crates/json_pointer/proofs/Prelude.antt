-- What the proofs of this crate name of others.
pub use Rattle.std.proofs.lemmas.{Bool.Decides.nat_tests, Str.{chars-nil, chars_past_char, IsUtf8-past_char, length-encode, encodes-chars}}
pub use Rattle.std.proofs.lemmas.Str.{encodes-append, chars-append, IsUtf8-encode, IsUtf8-drop, IsCharBoundary-start, IsUtf8-string_bytes}
pub use Rattle.std.specs.{Char.{len_utf8, IsScalar}, Cow.cow_str_bytes, Option.MatchOption, Str.{chars, IsUtf8, Iter.chars_rest}}
pub use Rattle.std.specs.declared.borrow.CowStr.{CowStr, TheVariants.{Borrowed, Owned}}
pub use Rattle.{yaml_chars.proofs.Runs.{IsBlind, run_is}, yaml_grammar.specs.Texts.{first, byte_len}}
