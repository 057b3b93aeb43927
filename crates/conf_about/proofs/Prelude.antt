-- What the proofs of this crate name of others.
pub use Rattle.std.proofs.lemmas.Bool.{and_parts, and_from, eqb-true, eqb-false, eq-eqb, ne_eqb, ltb-true, ltb-false, lt-ltb, le-ltb}
pub use Rattle.std.proofs.lemmas.{Bool.Decides.nat_tests, List.{at_drop_more, at_drop_all}, Result.{on_err_weaker, on_ok_weaker}}
pub use Rattle.std.proofs.lemmas.Str.{chars-append, chars-encodes, chars-IsAscii, chars-nil, chars_from_encodes, encodes-chars}
pub use Rattle.std.proofs.lemmas.Str.{IsCharBoundary-at_seam, IsUtf8-append, IsUtf8-drop, IsUtf8-from_ascii, IsUtf8-take}
pub use Rattle.std.specs.{List.list_all, Str.{NoCharPasses, NonePass, all_scalars, bytes_eq, chars, IsAscii, IsCharBoundary, IsUtf8}}
pub use Rattle.{yaml_chars.specs.Classes.code_point, yaml_config.proofs.TextTreeLemmas.tree_of-IsTextTree}
pub use Rattle.yaml_data.proofs.{KeyLemmas.{members_distinct-parts, same_key}, SeenLemmas.{join_members, members_of-append, tree_of-Map}}
pub use Rattle.yaml_data.{proofs.{SeenLemmas.{tree_of-Seq, tree_of-Text}, TextLemmas.IsUtf8-text_bytes}, specs.Keys.keys_differ}
pub use Rattle.yaml_data.specs.{Keys.values_distinct, Seen.{Pair, members_of, tree_of}, TextBytes.text_bytes, declared.text.Text.Text}
pub use Rattle.{yaml_data.specs.declared.tree.Tree.the_lemmas, yaml_grammar.specs.{Reads.{Limits, Good, Gives}, Style.style_text}}
pub use Rattle.yaml_grammar.specs.{Texts.{byte_len, is_empty, IsText, same_text}, Trees.{Tree, text, sequence, mapping, Members, no_member}}
pub use Rattle.yaml_grammar.specs.Trees.{member, depth, members_depth, distinct, members_distinct, IsTextTree, has_key}
pub use Rattle.yaml_tree.specs.Reading.{IsRead}
