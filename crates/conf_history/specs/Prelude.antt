-- What the definitions and the code of this crate name of others.
pub use Rattle.conf_disk.specs.{Folder.{Folder, bytes_under}, Image.{Image, IsImage, image_now}, Models.DiskModel, Moments.LeavesOnly}
pub use Rattle.{conf_disk.specs.declared.disk.Name.TheVariants.Store, conf_journal.specs.Store.{store_limit, IsStoreOf, LeavesStoreOr}}
pub use Rattle.conf_record.specs.Documents.{record_pieces, records_bytes, IsBase, IsNoBase, IsRecord, IsNoRecord}
pub use Rattle.{conf_about.specs.Abouts.text_under, conf_state.specs.Commands.{Command, Edit, import_as, set_at, delete_at, single, batch}}
pub use Rattle.conf_state.specs.{Commands.{noted, command_of, command_with, edit_of, name_of, text_of}, Limits.IsState, States.Contents}
pub use Rattle.conf_state.specs.{States.{Entry, config_named, names_of}, Steps.{after, step}, declared.room.Room.TheVariants.Enough}
pub use Rattle.conf_store.specs.{Calls.HasFailed, Durable.{AfterPrefix, IsNoted, IsWholeStore, AllImagesMean}, Holes.{IsAnyRecord, IsKept}}
pub use Rattle.conf_store.specs.{Holes.{MayBeDropped, is_several}, Meaning.{AreRecords, Means, PiecesMean}, NextRecords.IsWhy}
pub use Rattle.conf_store.specs.{NextRecords.RefusesRecord, Opens.{HasNoBase, IsNextRecord, RecoversTo, RefusesBytes}}
pub use Rattle.{yaml_data.specs.Seen.tree_of, yaml_docs.specs.{Cutting.Unclosed, PieceReading.{piece_or_rest, IsSound, ahead, bytes_read}}}
pub use Rattle.yaml_grammar.specs.{Closings.{Pieces, ClosesOnce}, Style.in_double_quotes, Texts.same_text}
pub use Rattle.yaml_recognizers.specs.Zeroed.{no_zero, StartsWithHole, Zeroed}
pub use Rattle.std.specs.{Io.KnownBytes.{IsAtEnd, Consumes, Appends, Keeps}, List.{concat, All}, Str.chars}
