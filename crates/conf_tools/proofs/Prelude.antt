-- What the proofs of this crate name of others.
pub use Rattle.conf_disk.{proofs.Moments.{LeavesOnly-joined, LeavesOnly-now, LeavesOnly-weaker, LeavesOnly-start}, specs.Folder.bytes_under}
pub use Rattle.conf_disk.specs.{Folder.{Folder, Reads, several_waited, Tells}, Image.{Image, IsImage, image_now}, Laws.ReadingIsAnImage}
pub use Rattle.conf_disk.specs.{Models.DiskModel, Moments.{LeavesOnly, TimeGoesOn}, declared.disk.Content.{Content, TheVariants.Bytes}}
pub use Rattle.{conf_disk.specs.declared.disk.{Content.TheVariants.Missing, Name.TheVariants.Store}, conf_journal.specs.Store.store_limit}
pub use Rattle.conf_session.specs.{Answers.{value_at_path, AllAreAcknowledged, Stored, accepted_commands, file_after_all}, Runs.stored_of}
pub use Rattle.conf_session.specs.{Runs.{AfterAtLeast, Runs}, Streams.{Streams, streams_of}, declared.fault.SessionFault.SessionFault}
pub use Rattle.{conf_session.specs.declared.session.Tally.Tally, conf_state.specs.Commands.{Command, command_of, import_as, single}}
pub use Rattle.conf_state.specs.{Commands.{text_of, batch, delete_at, edit_of}, States.{Contents, config_named}, Steps.{after, and_then}}
pub use Rattle.conf_state.specs.declared.fault.StoreFault.{StoreFault, TheVariants.{EmptyBatch, BadName, NoConfig, Path, Read, TooDeep}}
pub use Rattle.conf_state.specs.declared.fault.StoreFault.TheVariants.{ConfigLarge, StoreFull, RecordLong, JournalLong, CountFull, Reopen}
pub use Rattle.{conf_state.specs.declared.fault.StoreFault.TheVariants.{Device, OutOfMemory}, conf_store.proofs.OpenLemmas.image-meant}
pub use Rattle.conf_store.{proofs.OpenLemmas.{not-read, failed-later}, specs.Calls.{room_for, journal_length, outcome, HasFailed}}
pub use Rattle.conf_store.specs.{Calls.tree_named, Durable.{AfterPrefix, AllImagesMean, MeansPrefix, NothingWaits, staged_text}}
pub use Rattle.conf_store.specs.{Meaning.{FileMeans, FolderMeans, ImageMeans, empty_state}, Opens.{MeantAtEntry, OneMeaning, RecoversTo}}
pub use Rattle.conf_store.specs.{Opens.{RefusesBytes, RefusesOpening, WholeIsMeant}, View.StoreView, declared.fault.OpenFault.OpenFault}
pub use Rattle.conf_words.specs.declared.invocation.{MissingValue.MissingValue, ValueForm.ValueForm}
pub use Rattle.std.proofs.{KnownBytes.{Appends-trans, Keeps-refl, Consumes-trans, Consumes-kept}, lemmas.Bool.false≢true}
pub use Rattle.std.{proofs.lemmas.{Grind.common_steps, List.{drop_more, take-append-le, take_rest}}, specs.Io.KnownBytes.{Appends, Keeps}}
pub use Rattle.std.specs.{Io.KnownBytes.{Consumes, ReadConsumes}, List.starts_with, Str.IsUtf8}
unfoldable pub use Rattle.std.specs.Str.{chars}
pub use Rattle.{yaml_config.specs.{Kept.{IsKept, own_limits}, Limits.config_limits}, yaml_data.specs.Seen.tree_of}
pub use Rattle.{yaml_forms.specs.Json.json_texts, yaml_grammar.specs.Trees.{Tree, text, depth}, yaml_writer.specs.Encoded.encoded_both}
