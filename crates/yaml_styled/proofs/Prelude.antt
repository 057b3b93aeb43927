-- What the proofs of this crate name of others.
pub use Rattle.std.proofs.lemmas.Bool.{eqb-true, agree_below, agree_below_at, not-false, and_from, cases_lt, and_parts, le-leb, leb-true}
pub use Rattle.std.proofs.lemmas.{Bool.{ltb-true, Decides.nat_tests}, List.{get_or_default, length-map, take-replicate, get_or-replicate}}
pub use Rattle.std.proofs.lemmas.{List.{replicate-append-replicate, take_more}, Result.{on_ok_weaker, IfOk-weaker}, Simd.map-map}
pub use Rattle.std.proofs.lemmas.Simd.{mask_l-mod, length-chunk, first_set_mask_l, run_in_chunk_fails, run_in_chunk_le, zip2_of_maps}
pub use Rattle.std.proofs.lemmas.{Simd.{zip2_splat, splat_is_map}, Str.{chars-IsAscii, scalars-chars, encodes-chars, encodes-IsAscii}}
pub use Rattle.std.{proofs.lemmas.Str.IsUtf8-from_ascii, specs.{List.{AllAdjacentBelow, prefix_len, list_all}, Str.{chars, IsUtf8}}}
pub use Rattle.yaml_chars.specs.{Classes.{space, code_point, is_in}, Signs.{space_char, line_feed}}
pub use Rattle.yaml_data.proofs.{CharacterLemmas.{same_text-Decides, every-IsAscii, chars-literal}, KeyLemmas.{same_bytes, same_key}}
pub use Rattle.yaml_data.specs.{Keys.{keys_differ, nothing, key_members, values_distinct}, Seen.{Pair, tree_of, elements_of, members_of}}
pub use Rattle.{yaml_data.specs.TextBytes.text_bytes, yaml_grammar.specs.Style.{key_lines, elements_at, elements_after, lines_after_dash}}
pub use Rattle.yaml_grammar.specs.Style.{members_at, members_after, value_at, scalar_lines, style_text, letter, word_char, plain_in_style}
pub use Rattle.yaml_grammar.specs.{Style.{lower, is_among, special_words, long_key}, Texts.{same_text, spaces, IsText, byte_len, first}}
pub use Rattle.yaml_grammar.specs.Trees.{has_key, element, member, Tree, Members, no_member, sequence, mapping, Elements, no_element, text}
pub use Rattle.yaml_grammar.specs.Trees.{depth, elements_depth, members_depth, distinct, elements_distinct, members_distinct}
pub use Rattle.yaml_writer.proofs.{ByteLemmas.{byte_len-encoded, byte_len-chars}, SizeBounds.short_key, SizeSums.{same_size, filled_value}}
pub use Rattle.yaml_writer.{proofs.{SizeSums.{other_value, one_line, IsLiteral}, SpacesLemmas.encoded_spaces}, specs.Runs.stands_alone}
pub use Rattle.yaml_writer.specs.Sizes.{indented, elements_indented, elements_after_indented, indented_key_lines, members_indented}
pub use Rattle.yaml_writer.specs.Sizes.{members_after_indented, value_indented, is_filled, indented_scalar_lines, element_size}
pub use Rattle.yaml_writer.specs.declared.size.Size.{Size}
