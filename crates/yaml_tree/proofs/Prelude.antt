-- What the proofs of this crate name of others.
pub use Rattle.std.proofs.lemmas.{Bool.{ne_eqb, leb-true, leb-false, eqb-true, eqb-false, Decides.nat_tests}, List.append-nil}
pub use Rattle.std.proofs.lemmas.{List.nil_from_length, Result.{MatchResult-weaker, err_from_is_err_and, on_ok_weaker}}
pub use Rattle.std.{proofs.lemmas.Str.{chars_from_encodes, encodes-append, encodes-IsAscii, chars-nil}, specs.Cow.cow_str_bytes}
pub use Rattle.std.specs.Str.{chars, IsUtf8}
pub use Rattle.{yaml_config.specs.Kept.{own_limits, limits_of}, yaml_data.proofs.CharacterLemmas.{every-IsAscii, chars-literal}}
pub use Rattle.yaml_data.{proofs.SeenLemmas.{join_elements, join_members, tree_of-Map, tree_of-Text, tree_of-Seq}, specs.Keys.nothing}
pub use Rattle.yaml_data.specs.{Keys.{keys_differ, values_distinct, key_members}, Seen.{Pair, tree_of, elements_of, members_of}}
pub use Rattle.{yaml_data.specs.declared.text.Text.Text, yaml_events.specs.{Meant.{event_of, events_of}, declared.event.Event.Event}}
pub use Rattle.yaml_events.specs.declared.read_fault.ReadFault.{ReadFault, TheVariants.{TooLong, NotUtf8, Syntax, Documents, KeyNotText}}
pub use Rattle.yaml_events.specs.declared.read_fault.ReadFault.TheVariants.{KeyTwice, TooDeep, LargeInStyle, OutOfMemory}
pub use Rattle.yaml_grammar.specs.Events.{seq_end, map_end, document_end, as_seq, as_map, as_document, document_start, seq_start, map_start}
pub use Rattle.yaml_grammar.specs.{Events.scalar_event, Reads.{Limits, Reads, Good, Gives}, Style.{style_text, key_lines, lines_at}}
pub use Rattle.yaml_grammar.specs.Style.{elements_at, elements_after, lines_after_dash, members_at, members_after, value_at}
pub use Rattle.yaml_grammar.specs.{Texts.{byte_len, same_text, spaces, IsText}, Trees.{Shape, Tree, text, sequence, mapping, Elements}}
pub use Rattle.yaml_grammar.specs.Trees.{no_element, element, Members, no_member, member, document_from, document_to, seq_from, seq_to}
pub use Rattle.yaml_grammar.specs.Trees.{map_from, map_to, scalar_of, shapes, tree_shapes, elements_shapes, members_shapes, depth}
pub use Rattle.yaml_grammar.specs.Trees.{elements_depth, members_depth, IsTreeOf, shape, distinct, elements_distinct, members_distinct}
pub use Rattle.{yaml_grammar.specs.Trees.{has_key, IsTextTree, AreTextElements, AreTextMembers}, yaml_styled.specs.Comparing.GoesOn}
pub use Rattle.yaml_writer.proofs.ByteLemmas.{byte_len-chars, byte_len-encoded}
