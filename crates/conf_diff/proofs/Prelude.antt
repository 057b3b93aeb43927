-- What the proofs of this crate name of others.
pub use Rattle.conf_record.proofs.{EditLines.{import_at, set_lines_at, delete_lines_at}, SizeLemmas.scalar_most}
pub use Rattle.{conf_record.specs.Records.{edit_members, edit_elements}, conf_state.proofs.DraftLemmas.{named-put-same, put-put-same}}
pub use Rattle.conf_state.proofs.{DraftLemmas.cut-none, EntryLemmas.put_config-same, LineLemmas.ascii, LimitLemmas.other_way}
pub use Rattle.conf_state.specs.{Commands.{Edit, import_as, set_at, delete_at, name_of, edit_of}, Limits.{AreConfigs, IsState}}
pub use Rattle.conf_state.specs.{Names.good_name, States.{Contents, Entry, names_of, config_named, put_config, cut_config, has_name}}
pub use Rattle.conf_state.specs.{States.names_differ, Steps.{and_then, all_edited, by_path, checked_tree, configs_after}}
pub use Rattle.conf_state.specs.{Steps.{configs_after_delete, edited, found, with_checked_config}, declared.fault.StoreFault.StoreFault}
pub use Rattle.conf_state.specs.declared.fault.StoreFault.TheVariants.{BadName, NoConfig, TooDeep, ConfigLarge}
pub use Rattle.tree_path.{proofs.Places.bytes_eq-chars, specs.Paths.{set, delete, and_then as tree_and_then}}
pub use Rattle.json_pointer.{proofs.Pointers.path_of-pointer_text, specs.{declared.fault.PathFault.PathFault, Pointers.path_of}}
pub use Rattle.{json_pointer.specs.Pointers.pointer_text, tree_diff.proofs.DiffLaws.{differences-made, differences-same, places}}
pub use Rattle.tree_diff.{proofs.Performing.{made, IsPlace, ArePlaces}, specs.{Choices.{before_end, count, is_set_whole}, Diffs.Change}}
pub use Rattle.tree_diff.specs.{Diffs.{change_of, changes_of, edited as tree_edited}, Differences.{Difference, below, differences}}
pub use Rattle.tree_diff.specs.Differences.{element_differences, here, index_token, member_differences, new_elements, new_members, written}
pub use Rattle.yaml_config.{proofs.TextTreeLemmas.tree_of-IsTextTree, specs.{Kept.{IsKept, own_limits}, Limits.config_limits}}
pub use Rattle.yaml_data.{proofs.{CharacterLemmas.{same_text-true, same_text-self}, ListLemmas.drop_item}, specs.Seen.tree_of}
pub use Rattle.yaml_grammar.specs.Style.{style_text, elements_at, elements_after, lines_after_dash, members_at, members_after, value_at}
pub use Rattle.yaml_grammar.specs.{Style.{scalar_lines, key_lines}, Reads.Good, Texts.{byte_len, same_text, spaces}, Trees.{Tree, text}}
pub use Rattle.yaml_grammar.specs.Trees.{sequence, mapping, Elements, no_element, element, Members, no_member, member, depth}
pub use Rattle.yaml_grammar.specs.Trees.{elements_depth, members_depth, distinct, elements_distinct, members_distinct, has_key}
pub use Rattle.yaml_writer.proofs.{ByteLemmas.byte_len-chars, SizeLaws.{three, elements_law, members_law, scalar_law, value_law}}
pub use Rattle.yaml_writer.specs.{BudgetLaws.byte_len-append, Sizes.value_size}
pub use Rattle.std.proofs.lemmas.{Bool.{and_parts, or_parts, or_from, not-true, eqb-true, eqb-false, Decides.nat_tests}, List.append-nil}
pub use Rattle.std.proofs.lemmas.{List.{append_assoc, drop_all, map-append}, Result.on_ok_weaker, Str.{IsUtf8-string_bytes, chars-nil}}
pub use Rattle.std.{proofs.lemmas.Str.chars_from_encodes, specs.{Str.chars, Vec.Iter.{into_iter_items, into_iter_len}}}
