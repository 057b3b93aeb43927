-- What the proofs of this crate name of others.
pub use Rattle.json_pointer.{proofs.Pointers.{Spelling, as_tilde, as_slash, as_itself, spelling}, specs.Pointers.{char_text, token_text}}
pub use Rattle.json_pointer.specs.{Pointers.{pointer_text, path_of}, Tokens.texts, declared.fault.PathFault.PathFault}
pub use Rattle.std.proofs.lemmas.{Bool.Decides.nat_tests, List.{at_drop_more, length-append, length-map, length-take, length-take-le}}
pub use Rattle.std.proofs.lemmas.{List.{take-append-drop, take-take, take_all, take_at, append_assoc}, Str.IsUtf8-drop}
pub use Rattle.std.proofs.lemmas.Str.{IsUtf8-string_bytes, IsUtf8-take, chars-append, chars-nil, chars_from_encodes, chars_past_char}
pub use Rattle.std.{proofs.lemmas.Str.{encodes-chars, IsUtf8-past_char}, specs.{Cow.cow_str_bytes, List.{IsLastAndRest, insert}}}
pub use Rattle.std.specs.{Option.{is_some, unwrap_or}, Str.{IsCharBoundary, IsUtf8, NonePass, NoCharPasses, bytes_eq}}
unfoldable pub use Rattle.std.specs.Str.{chars}
pub use Rattle.std.specs.{Str.Pattern.{RFindsChar, HasCharAt}, declared.borrow.CowStr.CowStr}
pub use Rattle.tree_path.proofs.{Descents.{at_from-missed, at_from-turn, texts-append, texts-turn}, EditLaws.{at_step-Ok, child-distinct}}
pub use Rattle.tree_path.proofs.{Places.bytes_eq-chars, StepLaws.{option_map-None, option_map-Some}, Steps.bytes_eq-dash}
pub use Rattle.tree_path.specs.Paths.{Index, number, after_last, no_index, index_of, is_number, number_after, at, at_from, at_step, key_in}
pub use Rattle.tree_path.specs.Paths.{place_of, push_element}
unfoldable pub use Rattle.tree_path.specs.Paths.{child}
pub use Rattle.tree_path.specs.{Steps.{as_usize, number_of, parents_of}, declared.place.Miss.Miss}
pub use Rattle.yaml_config.{proofs.{Located.child-within, Planned.{IsSplit, split}, TextTreeLemmas.tree_of-IsTextTree}, specs.Kept.IsKept}
pub use Rattle.{yaml_config.specs.Kept.own_limits, yaml_data.proofs.SeenLemmas.{elements_of-step, tree_of-Map, tree_of-Seq, tree_of-Text}}
pub use Rattle.{yaml_data.specs.Seen.{Pair, elements_of, members_of, tree_of}, yaml_grammar.specs.{Style.style_text, Texts.byte_len}}
pub use Rattle.yaml_grammar.specs.{Texts.same_text, Trees.{Tree, text, sequence, mapping, Elements, no_element, element, Members}}
pub use Rattle.yaml_grammar.specs.Trees.{no_member, member, depth, distinct, elements_depth, elements_distinct, members_depth}
pub use Rattle.yaml_grammar.specs.Trees.{members_distinct, has_key}
