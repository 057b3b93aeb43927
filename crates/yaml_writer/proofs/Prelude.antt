-- What the proofs of this crate name of others.
pub use Rattle.std.proofs.{Math.Seq.{take-add, take-append_seam, drop-append-add, get_or-append_seam}, lemmas.Bool.agree_below}
pub use Rattle.std.proofs.lemmas.Bool.{agree_below_at, and_parts, not-true, not_from_false, false_from_ne_true, eqb-true, eq-eqb, le-leb}
pub use Rattle.std.proofs.lemmas.Bool.{lt-leb, and_from, ne_eqb, eqb-false, true≢false, Decides.{nat_tests, same_from_decides}}
pub use Rattle.std.proofs.lemmas.{Iterator.YieldsList-from_chars, List.{length-append, length-map, length-take-le, length-drop}}
pub use Rattle.std.proofs.lemmas.List.{take-append-drop, take_all, get_or-map, get_or-take, length-take, drop_all}
pub use Rattle.std.proofs.lemmas.List.{replicate-append-replicate, take-replicate, get_or-replicate, Folds.list_all-append}
pub use Rattle.std.proofs.lemmas.{Result.on_ok_weaker, Simd.{map-map, mask_l-mod, pick_l_whole, zip2_of_maps, zip2_splat, splat_is_map}}
pub use Rattle.std.proofs.lemmas.Str.{length-encode, encodes-chars, len_utf8_bounds, IsUtf8-take, IsCharBoundary-before_ascii, IsUtf8-drop}
pub use Rattle.std.proofs.lemmas.Str.{IsCharBoundary-after_ascii, chars-append, IsUtf8-from_ascii, IsCharBoundary-from_take, chars-IsAscii}
pub use Rattle.std.{proofs.lemmas.Str.{chars_past_char, encode_ascii, encodes-append}, specs.List.{list_all, range_with_len, list_any}}
pub use Rattle.std.specs.{Option.{MatchOption, is_some}, Str.{IsCharBoundary, IsUtf8}}
unfoldable pub use Rattle.std.specs.Str.{chars}
pub use Rattle.yaml_chars.specs.{Classes.{is_in, in_range, printable}, Signs.{line_feed, no_break_space, line_separator}}
pub use Rattle.yaml_chars.specs.Signs.{paragraph_separator, byte_order_mark, null, bell, carriage_return, escape_char, double_quote}
pub use Rattle.{yaml_chars.specs.Signs.{backslash, space_char}, yaml_data.proofs.CharacterLemmas.{list_any-is_in, every-IsAscii}}
pub use Rattle.yaml_data.proofs.CharacterLemmas.{chars-same, every-bytes, every-push, chars_empty, chars_filled, boundary_past_char}
pub use Rattle.yaml_data.proofs.{CharacterLemmas.{drop_char, same_text-Decides, chars-literal}, ListLemmas.drop_item}
pub use Rattle.yaml_data.{proofs.SeenLemmas.{tree_of-Map, tree_of-Seq, tree_of-Text}, specs.Seen.{Pair, elements_of, members_of, tree_of}}
pub use Rattle.yaml_grammar.specs.Style.{word_char, letter, plain_in_style, literal_in_style, in_double_quotes, quoted_chars, literal_mark}
pub use Rattle.yaml_grammar.specs.Style.{literal_lines, feeds_at_end, scalar_lines, key_text, long_key, key_lines, elements_at}
pub use Rattle.yaml_grammar.specs.Style.{elements_after, lines_after_dash, members_at, members_after, value_at, hex, quoted_char}
pub use Rattle.yaml_grammar.specs.{Style.{special_words, is_among, lower, shown_or_feed, letter_escape, style_text}, Texts.byte_len}
pub use Rattle.yaml_grammar.specs.{Texts.{spaces, first, same_text}, Trees.{Tree, text, sequence, mapping, Elements, no_element, element}}
pub use Rattle.yaml_grammar.specs.Trees.{Members, no_member, member, depth, elements_depth, members_depth}
