-- What the definitions and the code of this crate name of others.
pub use Rattle.std.specs.{Cow.cow_str_bytes, Str.{IsUtf8, chars}}
pub use Rattle.{yaml_config.specs.Kept.{IsFirstFault, limits_of, own_limits}, yaml_data.specs.Keys.{nothing, values_distinct}}
pub use Rattle.{yaml_data.specs.{Seen.tree_of, TextBytes.text_bytes}, yaml_docs.specs.Reading.{ReadsAs, IsShortText}}
pub use Rattle.yaml_events.specs.{Meant.{events_of, event_of}, declared.read_fault.ReadFault.{ReadFault, TheVariants.{TooLong, NotUtf8}}}
pub use Rattle.yaml_events.specs.declared.read_fault.ReadFault.TheVariants.{Syntax, Documents, KeyNotText, KeyTwice, TooDeep, LargeInStyle}
pub use Rattle.{yaml_events.specs.declared.read_fault.ReadFault.TheVariants.OutOfMemory, yaml_grammar.specs.Events.{Event, document_start}}
pub use Rattle.yaml_grammar.specs.{Reads.{Limits, Reads, Gives}, Style.{style_text, scalar_lines, key_lines, lines_at, elements_at}}
pub use Rattle.yaml_grammar.specs.{Style.{members_at, value_at}, Texts.{byte_len, IsText, spaces}, Trees.{IsTreeOf, distinct, Tree, depth}}
pub use Rattle.yaml_grammar.specs.Trees.{IsTextTree, Shape, document_from, document_to, seq_from, seq_to, map_from, map_to, scalar_of, text}
pub use Rattle.yaml_grammar.specs.Trees.{sequence, mapping, Elements, no_element, element, Members, no_member, member, elements_distinct}
pub use Rattle.yaml_grammar.specs.Trees.{shapes, AreTextElements, AreTextMembers, shape}
