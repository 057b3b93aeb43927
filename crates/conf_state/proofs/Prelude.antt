-- What the proofs of this crate name of others.
pub use Rattle.indexmap.specs.IndexMap.{insert_entry, IsUnique, spare}
pub use Rattle.json_pointer.specs.Pointers.{path_of, pointer_text, slash, first_stray, tokens_or_place}
pub use Rattle.{json_pointer.specs.declared.fault.PathFault.PathFault, tree_path.specs.Paths.{set, delete}}
pub use Rattle.yaml_config.specs.{Changes.Changes, Edits.tree_after_edit, Limits.config_limits, declared.change.Change.Change}
pub use Rattle.{yaml_config.specs.declared.edit.Edit.Edit, yaml_data.proofs.CharacterLemmas.{same_text-true, same_text-self}}
pub use Rattle.yaml_data.{proofs.CharacterLemmas.{same_text-Decides, every-IsAscii, chars-same, every-bytes}, specs.Seen.tree_of}
pub use Rattle.yaml_grammar.specs.{Reads.Good, Style.{letter, plain_in_style, literal_in_style, quoted_char, quoted_chars}}
pub use Rattle.yaml_grammar.specs.Style.{in_double_quotes, scalar_lines, literal_mark, literal_lines, feeds_at_end, key_lines, value_at}
pub use Rattle.yaml_grammar.specs.{Style.{members_after, style_text}, Texts.{byte_len, spaces, same_text, first}, Trees.{Tree, mapping}}
pub use Rattle.{yaml_grammar.specs.Trees.{depth, text, no_member, member}, yaml_writer.specs.{BudgetLaws.byte_len-append, Sizes.length_at}}
pub use Rattle.std.proofs.lemmas.Bool.{and_parts, and_from, false_from_ne_true, Decides.{nat_tests, same_from_decides}}
pub use Rattle.std.proofs.lemmas.{Fmt.{decimal_is_IsNumeral_wide, length-decimal-le}, Map.Steps.set_value_same, Result.on_ok_weaker}
pub use Rattle.std.proofs.lemmas.{Result.{IfOk-weaker, IfErr-weaker, err_from_is_err_and}, Slice.Eq.bytes_eq-Decides}
pub use Rattle.std.{proofs.lemmas.Str.{IsUtf8-string_bytes, chars-nil, encodes-chars, chars-IsAscii}, specs.List.{list_any, list_all}}
pub use Rattle.std.specs.{List.{AllByRecursion, IsDistinct}, Map.{lookup, set_value, keys_of}, Option.{option_copied_mut, option_copied}}
pub use Rattle.std.specs.{Str.{chars, Parse.AllDigits}, String.string_eq, Vec.Iter.{into_iter_items, into_iter_len}}
