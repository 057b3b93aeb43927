-- What the proofs of this crate name of others.
pub use Rattle.{json_pointer.specs.Tokens.texts, tree_path.proofs.{Places.bytes_eq-chars, Steps.bytes_eq-dash}}
pub use Rattle.yaml_data.proofs.{CharacterLemmas.{chars-literal, every-IsAscii}, ListLemmas.drop_item, SeenLemmas.tree_of-Text}
pub use Rattle.yaml_data.{proofs.{SeenLemmas.{tree_of-Seq, tree_of-Map}, TextLemmas.IsUtf8-text_bytes}, specs.Seen.elements_of}
pub use Rattle.yaml_data.specs.{Seen.{members_of, tree_of}, TextBytes.text_bytes, declared.text.Text.Text}
pub use Rattle.{yaml_forms.specs.Json.{json_member, json_string}, yaml_grammar.specs.Texts.same_text}
pub use Rattle.std.proofs.lemmas.{List.{append-nil, drop_all}, Result.on_ok_weaker, Str.{IsUtf8-from_ascii, chars-IsAscii}}
pub use Rattle.std.specs.{Borrow.Bor, Cow.cow_str_bytes, List.list_all, Str.{IsUtf8, bytes_eq, chars}}
