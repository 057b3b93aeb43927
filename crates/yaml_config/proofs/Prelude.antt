-- What the proofs of this crate name of others.
pub use Rattle.{json_pointer.specs.Tokens.texts, tree_path.proofs.Descents.{edit_path, edit_path-step, texts-append, at_from-missed}}
pub use Rattle.tree_path.proofs.{Descents.texts-turn, EditLaws.{at_step-Ok, and_then-Ok, same_Ok, set-distinct, delete-distinct}}
pub use Rattle.tree_path.proofs.{Edits.{set-edit, delete-edit, delete-refused, set-refused}, StepLaws.{option_map-Some, present-Ok}}
pub use Rattle.tree_path.proofs.{StepLaws.put-there, Steps.{cut-Text, bytes_eq-dash, not_last}, Ways.{knows-way, knows-last, knows-step}}
pub use Rattle.tree_path.{proofs.Ways.{place-missed, path-split}, specs.Paths.{Index, number, after_last, no_index, index_of, at_index}}
pub use Rattle.tree_path.specs.Paths.{present, put_element, cut_element, push_element, value_of, put_member, cut_member, at_step, edit_from}
pub use Rattle.tree_path.specs.Paths.{set, delete, refusal, at_from, key_in, at}
pub use Rattle.std.proofs.lemmas.{Bool.Decides.nat_tests, Result.err_from_is_err_and, Str.{scalars-chars, chars-nil}}
pub use Rattle.std.specs.{Cow.cow_str_bytes, List.{IsLastAndRest, list_all}, Str.{chars, IsUtf8}}
unfoldable pub use Rattle.tree_path.specs.Paths.{child, put, cut}
pub use Rattle.tree_path.specs.{Steps.{ArePlaces, KnowsLast, step_place, KnowsStep, parents_of}, declared.place.Miss.Miss}
pub use Rattle.{tree_path.specs.declared.place.Miss.TheVariants.Absent, yaml_data.proofs.SeenLemmas.{tree_of-Text, tree_of-Seq}}
pub use Rattle.yaml_data.{proofs.SeenLemmas.tree_of-Map, specs.Seen.{Pair, elements_of, members_of, tree_of, level, elements_from}}
pub use Rattle.{yaml_data.specs.{Seen.members_from, declared.tree.Tree.Text}, yaml_grammar.specs.Style.{key_lines, elements_at}}
pub use Rattle.yaml_grammar.specs.Style.{elements_after, lines_after_dash, members_at, members_after, value_at, style_text}
pub use Rattle.yaml_grammar.specs.{Texts.{byte_len, spaces, same_text, IsText}, Trees.{Tree, text, sequence, mapping, Elements, no_element}}
pub use Rattle.yaml_grammar.specs.Trees.{element, Members, no_member, member, depth, elements_depth, members_depth, IsTextTree}
pub use Rattle.{yaml_grammar.specs.Trees.{AreTextElements, AreTextMembers, distinct}, yaml_writer.proofs.SizeLaws.{three, four}}
pub use Rattle.yaml_writer.proofs.SizeLaws.{spaces_bytes, key_law, element_law, value_law, elements_law, members_law}
pub use Rattle.yaml_writer.specs.{Sizes.{length_at, element_size, value_size, indented}, declared.size.Size.Size}
