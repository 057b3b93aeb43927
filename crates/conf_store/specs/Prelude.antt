-- What the definitions and the code of this crate name of others.
pub use Rattle.conf_disk.specs.{Folder.{bytes_under, Folder, File, Tells, several_waited}, Image.{image_now, Image, IsImage, synced_file}}
pub use Rattle.conf_disk.specs.{Models.DiskModel, Moments.{greatest, LeavesOnly, CountsFailures}, declared.disk.Name.TheVariants.Store}
pub use Rattle.{conf_disk.specs.declared.disk.Name.TheVariants.Next, conf_journal.specs.{Held.{HoldsStore, file_at}, Store.store_limit}}
pub use Rattle.conf_journal.specs.Store.{file_with_bytes, IsStoreOf, IsSynced, LeavesStoreOr, ReadsAs, LeavesOldStore}
pub use Rattle.conf_record.specs.{Documents.{IsRecord, IsBase, record_pieces, records_bytes, IsNoRecord}, Records.record_bytes}
pub use Rattle.conf_record.specs.RecordsRead.{IsCommand, number_from_digits, keys_are, values, entries, base_keys}
pub use Rattle.conf_state.specs.{BaseTexts.{base_bytes, members, closed_document}, Commands.{Command, has_about, may_be_long, text_of}}
pub use Rattle.conf_state.specs.{Commands.{import_as, single, command_of, command_with, edit_of, name_of}, EntryTexts.entry_named}
pub use Rattle.conf_state.specs.{Limits.IsState, Names.good_name, Rooms.room_of, States.{Contents, config_named, count_limit, Entry}}
pub use Rattle.conf_state.specs.{States.{put_config, cut_config, base_limit, names_of, names_differ}, Steps.{step, and_then, found}}
pub use Rattle.conf_state.specs.{Steps.{by_path, after}, declared.fault.StoreFault.{StoreFault, TheVariants.{Reopen, Device, BadName}}}
pub use Rattle.conf_state.specs.declared.fault.StoreFault.TheVariants.{OutOfMemory, TooDeep, ConfigLarge, StoreFull, CountFull, Read}
pub use Rattle.{conf_state.specs.declared.room.Room.{Room, TheVariants.Enough}, tree_path.specs.Paths.{at, set, delete}}
pub use Rattle.yaml_grammar.specs.{Closings.{ClosesOnce, Pieces}, Style.style_text, Texts.{byte_len, same_text, spaces}, Trees.Tree}
pub use Rattle.{yaml_grammar.specs.Trees.{depth, text, sequence, mapping, no_member, member}, yaml_recognizers.specs.Zeroed.no_zero}
pub use Rattle.yaml_recognizers.specs.Zeroed.{StartsWithHole, Zeroed}
pub use Rattle.std.specs.{Coded.{Coded, code_by, coded×, coded_ℕ, coded_list, coded_option, coded_bool}, List.All, Str.{bytes_eq, chars}}
pub use Rattle.std.specs.{Str.IsUtf8, declared.alloc.Global.Global}
