-- What the proofs of this crate name of others.
pub use Rattle.json_pointer.{proofs.Pointers.path_of-pointer_text, specs.{declared.fault.PathFault.PathFault, Pointers.path_of}}
pub use Rattle.{json_pointer.specs.Pointers.{pointer_text, token_text, char_text, slash}, tree_path.proofs.StepLaws.{child-put, put-put}}
pub use Rattle.tree_path.{proofs.StepLaws.{put-child, put-there}, specs.Paths.{Index, number, after_last, no_index, digit, is_number}}
pub use Rattle.tree_path.specs.Paths.{number_after, index_of, element_at, put_element, cut_element, push_element, value_of, put_member}
pub use Rattle.tree_path.specs.Paths.{cut_member, present, at_index}
pub use Rattle.std.proofs.lemmas.{Bool.{and_parts, and_right, or_parts, or_from, not-true, Decides.nat_tests}, Fmt.decimal_is_IsNumeral}
pub use Rattle.std.proofs.lemmas.{Fmt.{decimal_digit, first_decimal, IsAscii-decimal}, Int.Digits.digits_value_push}
pub use Rattle.std.proofs.lemmas.{List.{get_or_append_left, append-nil, map-append}, Str.{digit_value_digit, Parse.digit_from_value}}
pub use Rattle.std.specs.{Char.digit_value, List.list_all, Str.Parse.{AllDigits, digits_value, digits_value_after}}
unfoldable pub use Rattle.tree_path.specs.Paths.{child, put, cut}
pub use Rattle.tree_path.specs.{Paths.{at_step, and_then, edit_from, set, delete}, declared.place.Miss.{Miss, TheVariants.Absent}}
pub use Rattle.yaml_data.proofs.{CharacterLemmas.{same_text-true, same_text-self}, SeenLemmas.{join_elements, join_members, tree_of-Text}}
pub use Rattle.{yaml_data.proofs.SeenLemmas.{tree_of-Seq, tree_of-Map}, yaml_grammar.specs.{Texts.{same_text, is_empty}, Trees.Tree}}
pub use Rattle.yaml_grammar.specs.Trees.{text, sequence, mapping, Elements, no_element, element, Members, no_member, member, has_key}
pub use Rattle.yaml_grammar.specs.Trees.{distinct, elements_distinct, members_distinct}
pub use Rattle.std.proofs.lemmas.{Iterator.{YieldsList-from_chars, Consumers.{YieldsList-turn, YieldsList-end}}, Result.on_ok_weaker}
pub use Rattle.std.proofs.lemmas.Str.{chars-nil, chars-append, chars-encodes, chars-IsAscii, IsUtf8-string_bytes, scalars-chars}
pub use Rattle.std.specs.{Result.{OnOk, is_ok}, Str.{IsUtf8, bytes_eq}}
unfoldable pub use Rattle.std.specs.Str.{chars}
pub use Rattle.{tree_path.proofs.Places.bytes_eq-chars, yaml_data.{proofs.TextLemmas.IsUtf8-text_bytes, specs.TextBytes.text_bytes}}
pub use Rattle.yaml_data.specs.Seen.{tree_of, elements_of, members_of}
pub use Rattle.std.proofs.lemmas.List.{at_drop_more, take_more, take_all, map-id}
