-- What the proofs of this crate name of others.
pub use Rattle.std.proofs.lemmas.{Bool.Decides.{nat_tests, same_from_decides}, Str.{chars-IsAscii, chars-nil, encodes-chars}}
pub use Rattle.std.proofs.lemmas.Str.{encodes-IsAscii, IsCharBoundary-past_char, drop_past_char, IsUtf8-had, IsUtf8-string_bytes}
pub use Rattle.std.specs.{List.{list_all, list_any, AllAdjacentBelow}, Str.{chars, IsCharBoundary, bytes_eq}}
pub use Rattle.yaml_grammar.specs.Trees.{Members, no_member, member, has_key, distinct, members_distinct, Tree, text, sequence, mapping}
pub use Rattle.yaml_grammar.specs.Trees.{Elements, no_element, element, depth, elements_depth, members_depth}
