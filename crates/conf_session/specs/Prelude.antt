-- What the definitions and the code of this crate name of others.
pub use Rattle.conf_conditions.specs.Conditions.{first_fault, Condition, AllHold, FailsFirst, conditions_of, test_at, absent_at, count_is}
pub use Rattle.conf_conditions.specs.{Conditions.condition_of, declared.fault.ConditionFault.ConditionFault}
pub use Rattle.conf_disk.specs.{Folder.{Folder, bytes_under}, Image.{Image, IsImage}, Models.DiskModel, Moments.LeavesOnly}
pub use Rattle.{conf_disk.specs.declared.disk.Name.TheVariants.Store, conf_about.specs.Abouts.{fault_of, IsAbout}}
pub use Rattle.{conf_about.specs.declared.fault.AboutFault.AboutFault, conf_record.specs.Reading.{AreKept, AreKeptElements, KeepsTree}}
pub use Rattle.conf_record.specs.{Reading.edit_seen, Formats.base_in, declared.format.Format.Format, RecordsRead.{keys_are, values}}
pub use Rattle.{conf_record.specs.RecordsRead.{edit_under, number_from_digits}, conf_state.specs.Commands.{Command, set_at, delete_at}}
pub use Rattle.conf_state.specs.Commands.{command_of, command_with, has_about, Edit, import_as, single, batch, noted, edit_of}
pub use Rattle.conf_state.specs.{Limits.IsState, States.{Contents, names_of, base_limit}, Steps.{and_then, by_path, after}}
pub use Rattle.{conf_state.specs.declared.fault.StoreFault.StoreFault, conf_store.specs.Calls.{outcome, next_record, renews, size_with}}
pub use Rattle.conf_store.specs.{Calls.{format_with, tree_named, HasFailed}, Changing.{file_with, new_file_with}, Durable.MeansPrefix}
pub use Rattle.conf_store.specs.{Durable.{AllImagesMean, HasFlushed, staged_text, AllImagesAfterPrefix}, Grown.HasGrown, View.StoreView}
pub use Rattle.{yaml_chars.specs.Signs.{double_quote, line_feed}, yaml_config.specs.Kept.{own_limits, IsKept}, yaml_data.specs.Seen.tree_of}
pub use Rattle.yaml_data.specs.{Seen.{elements_of, members_of}, TextBytes.text_bytes}
pub use Rattle.{yaml_events.specs.declared.read_fault.ReadFault.ReadFault, yaml_grammar.specs.{Closings.{ClosesOnce, Pieces}, Reads.Gives}}
pub use Rattle.yaml_grammar.specs.{Reads.Limits, Style.{style_text, plain_in_style, long_key}, Texts.{first, spaces, same_text}, Trees.Tree}
pub use Rattle.yaml_grammar.specs.Trees.{text, sequence, mapping, Elements, no_element, element, no_member, member, Members, has_key}
pub use Rattle.{yaml_grammar.specs.Trees.{members_distinct, depth}, yaml_recognizers.specs.Closings.{framed_text_bytes, framed_text}}
pub use Rattle.yaml_tree.specs.Reading.{Refuses, IsRead}
pub use Rattle.std.specs.{Io.KnownBytes.{Appends, Keeps, Consumes, IsAtEnd}, List.{concat, list_all}, Str.chars}
