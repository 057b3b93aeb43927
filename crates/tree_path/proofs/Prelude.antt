-- What the proofs of this crate name of others.
pub use Rattle.json_pointer.specs.{Tokens.texts, declared.fault.PathFault.PathFault}
pub use Rattle.std.proofs.lemmas.{Bool.{and_parts, eqb-true, eqb-false, Decides.{nat_tests, same_from_decides}}, Grind.get_or_default_zero}
pub use Rattle.std.proofs.lemmas.{Iterator.{YieldsList-from_chars, Consumers.{YieldsList-turn, YieldsList-end}}, List.take_more}
pub use Rattle.std.proofs.lemmas.List.{at_drop_more, take-append-drop, length-map, length-take-le, length-drop, at_drop_all}
pub use Rattle.std.proofs.lemmas.List.{get_or-set_same, get_or-set_other, length-set, get_or_append_left, length_push, length-append}
pub use Rattle.std.proofs.lemmas.{List.{take_at, take_all, get_or_past}, Result.{IfOk-weaker, on_ok_weaker, err_from_is_err_and}}
pub use Rattle.std.proofs.lemmas.{Result.{on_err_weaker, IfErr-weaker}, Slice.Eq.{compares_Decides, bytes_eq-Decides}, Str.encodes-chars}
pub use Rattle.std.specs.{Cow.cow_str_bytes, List.{remove, list_all, insert}, Option.{option_copied, option_and_then, ok_or}, Result.OnOk}
pub use Rattle.std.specs.{Result.IsOk, Str.{IsUtf8, bytes_eq}}
unfoldable pub use Rattle.std.specs.Str.{chars}
pub use Rattle.std.specs.declared.borrow.CowStr.{CowStr}
pub use Rattle.yaml_data.{proofs.{SeenLemmas.{tree_of-Text, tree_of-Map, tree_of-Seq}, TextLemmas.IsUtf8-text_bytes}, specs.Seen.Pair}
pub use Rattle.yaml_data.specs.{Seen.{members_of, tree_of, elements_of}, TextBytes.text_bytes, declared.text.Text.Text}
pub use Rattle.{yaml_data.specs.declared.tree.Tree.the_lemmas, yaml_grammar.specs.{Texts.{same_text, is_empty}, Trees.{Tree, text}}}
pub use Rattle.yaml_grammar.specs.Trees.{sequence, mapping, Elements, no_element, element, Members, no_member, member, distinct}
pub use Rattle.yaml_grammar.specs.Trees.{elements_distinct, members_distinct, has_key}
