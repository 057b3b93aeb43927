-- What the proofs of this crate name of others.
pub use Rattle.conf_disk.proofs.Moments.{LeavesOnly-joined, LeavesOnly-now, LeavesOnly-weaker, LeavesOnly-same, LeavesOnly-start}
pub use Rattle.conf_disk.specs.Folder.{several_waited, bytes_under, File, empty_file, file_bytes, Folder, bytes_at, Tells, with_pending}
pub use Rattle.conf_disk.specs.{Folder.synced_whole, Image.{Image, IsImage, image_now, synced_file, IsWorn}, Laws.ReadingIsAnImage}
pub use Rattle.conf_disk.specs.{Models.DiskModel, Moments.{LeavesOnly, TimeGoesOn, greatest}, declared.disk.Content.TheVariants.Missing}
pub use Rattle.conf_disk.specs.declared.disk.{Content.TheVariants.{Bytes, TooLong}, DiskFault.DiskFault, Name.TheVariants.{Store, Next}}
pub use Rattle.conf_journal.specs.{Appends.several_after, Held.{HoldsStore, OnlyHeldIsLeft, file_at, any_bytes, IsLeftOf, IsLeftNoted}}
pub use Rattle.conf_journal.specs.{Held.{HeldIsNoted, SyncedIsLeft}, Store.{IsStoreOf, LeavesStoreOr, file_with_bytes, store_limit}}
pub use Rattle.{conf_journal.specs.Store.ReadsAs, conf_record.specs.Documents.{IsBase, OneBase, OneRecord, IsRecord, RecordsClose}}
pub use Rattle.conf_record.specs.Documents.{record_pieces, records_bytes, IsNoBase, IsNoRecord, BasesAreRead, BasesClose, BasesFit}
pub use Rattle.conf_record.specs.{Documents.RecordsAreRead, Records.{command_members, record_tree, FitsRecord}}
unfoldable pub use Rattle.conf_record.specs.Records.{record_bytes, record_text}
pub use Rattle.conf_record.specs.RecordsRead.{keys_are, values, number_from_digits, entries, base_keys, import_keys, set_keys, delete_keys}
pub use Rattle.conf_record.specs.RecordsRead.{has_good_path, if_good, import_of, set_of, delete_of, with_number, numbered_of, contents_of}
pub use Rattle.conf_record.specs.RecordsRead.{IsCommand, is_about, about_in, without_about, plain_from, with_about, command_from}
unfoldable pub use Rattle.conf_record.specs.RecordsRead.{record_of, base_of}
pub use Rattle.conf_state.{proofs.RunLaws.{and_then-Ok, after-count, after-append}, specs.BaseTexts.{members, entry_lines}}
unfoldable pub use Rattle.conf_state.specs.BaseTexts.{base_bytes, base_length, base_text}
pub use Rattle.conf_state.specs.Commands.{Edit, Command, single, noted, name_of, import_as, set_at, delete_at, edit_of, text_of, batch}
pub use Rattle.conf_state.specs.{Commands.{may_be_long, command_of}, EntryTexts.{lines_if_there, entry_named}, Limits.{AreConfigs, IsState}}
pub use Rattle.conf_state.specs.{Names.good_name, States.{Contents, Entry, config_named, put_config, base_limit, count_limit, has_name}}
pub use Rattle.conf_state.specs.{States.{names_differ, names_of}, Steps.{and_then, found, by_path, checked_tree, with_checked_config}}
pub use Rattle.conf_state.specs.Steps.{configs_after_delete, configs_after, edited, next_state, step, after, with_room, IsRefusal}
pub use Rattle.conf_state.specs.{Touched.touched, declared.fault.StoreFault.{StoreFault, TheVariants.{BadName, TooDeep, ConfigLarge}}}
pub use Rattle.conf_state.specs.declared.fault.StoreFault.TheVariants.{StoreFull, CountFull, EmptyBatch, NoConfig, Path, Read, RecordLong}
pub use Rattle.conf_state.specs.declared.{fault.StoreFault.TheVariants.{JournalLong, Reopen, Device, OutOfMemory}, room.Room.Room}
pub use Rattle.{conf_state.specs.declared.room.Room.TheVariants.{Enough, LongRecord}, yaml_config.specs.Limits.config_limits}
pub use Rattle.{yaml_data.proofs.CharacterLemmas.{same_text-true, same_text-self}, yaml_docs.specs.NextClosing.{IsNextClosing, StartsLine}}
pub use Rattle.{yaml_docs.specs.NextClosing.NoClosingAfter, yaml_grammar.specs.{Closings.{ClosesOnce, Pieces, ClosesAt}, Style.style_text}}
pub use Rattle.yaml_grammar.specs.{Style.{members_after, scalar_lines, value_at}, Texts.{same_text, byte_len, spaces}, Trees.{Tree, text}}
pub use Rattle.yaml_grammar.specs.Trees.{sequence, mapping, Members, no_member, member, depth}
pub use Rattle.yaml_recognizers.specs.{Closings.{PieceBetween, OnePieces, RestUnclosed, SomePieces}, Zeroed.{NoZeroByte, no_zero}}
pub use Rattle.{yaml_recognizers.specs.Zeroed.{StartsWithHole, Zeroed}, yaml_writer.proofs.ByteLemmas.byte_len-encoded}
pub use Rattle.std.proofs.lemmas.{Bool.{false≢true, and_parts, cases_lt, eqb-true, Decides.nat_tests}, List.{drop-drop, append-nil}}
pub use Rattle.std.proofs.lemmas.List.{length-take-le, take-append-le, take_all, length-replicate, map_more, map-append, take-take}
pub use Rattle.std.proofs.lemmas.List.{drop-take, length-drop, length-take, replicate-append-replicate, take-replicate, get_or-replicate}
pub use Rattle.std.proofs.lemmas.{List.Elements.{All-head, All-tail, All-nil, All-cons, All-append, All-push}, Result.on_ok_weaker}
pub use Rattle.std.proofs.lemmas.{Result.{IfOk-weaker, IfErr-weaker}, Str.{IsUtf8-string_bytes, encodes-append, encodes-chars}}
pub use Rattle.std.specs.{HashMap.get_by_text, List.{AllByRecursion, All, concat}, Str.chars}
