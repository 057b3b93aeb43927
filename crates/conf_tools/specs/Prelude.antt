-- What the definitions and the code of this crate name of others.
pub use Rattle.conf_conditions.specs.Conditions.{Condition, absent_at, condition_of, conditions_of, count_is, test_at, first_fault}
pub use Rattle.{conf_conditions.specs.declared.fault.ConditionFault.ConditionFault, conf_disk.specs.Folder.{Folder, bytes_under}}
pub use Rattle.conf_disk.specs.{Folder.{several_waited, Tells, Reads}, Image.{Image, IsImage}, Models.DiskModel, Moments.LeavesOnly}
pub use Rattle.{conf_disk.specs.declared.disk.Name.TheVariants.Store, conf_files.specs.declared.replace.ReplaceFault.ReplaceFault}
pub use Rattle.{conf_folder.specs.declared.fault.FolderFault.FolderFault, conf_history.specs.Copies.{BacksUp, LeavesOldOrCopy}}
pub use Rattle.conf_history.specs.{Copies.{RefusesBackup, disk_handed_back}, Histories.{HoldsAt, RefusesReading, IsSurvey, RefusesSurvey}}
pub use Rattle.conf_history.specs.declared.fault.{HistoryFault.{HistoryFault, TheVariants.NotAStore}, SalvageFault.SalvageFault}
pub use Rattle.conf_history.specs.declared.{log.{LogForm.LogForm, LogRequest.LogRequest}, survey.Findings.Findings}
pub use Rattle.{conf_journal.specs.Store.store_limit, conf_session.specs.Answers.{value_at_path, Stored, accepted_commands, file_after_all}}
pub use Rattle.conf_session.specs.{Runs.{AfterAtLeast, Ends, Runs, stored_of}, Streams.{Streams, streams_of}}
pub use Rattle.conf_session.specs.declared.{fault.SessionFault.SessionFault, groups.Checkpoints.{Checkpoints, TheVariants.{After, Asked}}}
pub use Rattle.{conf_session.specs.declared.session.Tally.Tally, conf_state.specs.Commands.{batch, command_of, delete_at, import_as}}
pub use Rattle.conf_state.specs.{Commands.{single, text_of, Command, set_at}, FaultNames.{fault_name, path_name, read_name}}
pub use Rattle.conf_state.specs.{States.{Contents, Entry, config_named, names_of}, Steps.{after, and_then, by_path, found}}
pub use Rattle.conf_state.specs.declared.fault.StoreFault.{StoreFault, TheVariants.{Reopen, Device, BadName, NoConfig, Path}}
pub use Rattle.conf_store.specs.{Calls.{Accepts, HasFailed, RefusesCommand, tree_named}, Changing.{AppendsRecord, store_file, store_note}}
pub use Rattle.conf_store.specs.{Changing.{DeviceHasCause, FailuresNeverFall}, Durable.{AllImagesMean, HasFlushed, MeansPrefix}}
pub use Rattle.conf_store.specs.{Files.{IsOldOrBase, IsNewBase, FilesStay, HasLength}, Meaning.{FileMeans, FolderMeans, ImageMeans}}
pub use Rattle.conf_store.specs.{Meaning.empty_state, Opens.{MeantAtEntry, FileRecoversTo, RefusesOpening, ReadsAfterOpening, RefusalMeans}}
pub use Rattle.conf_store.specs.{View.StoreView, declared.fault.OpenFault.OpenFault}
pub use Rattle.conf_words.specs.declared.invocation.{Comments.Comments, Conditions.Conditions, Invocation.{Invocation, TheVariants.Init}}
pub use Rattle.conf_words.specs.declared.invocation.Invocation.TheVariants.{Import, Set, Alter, Batch, Checkpoint, Run, ExportAll, Export}
pub use Rattle.conf_words.specs.declared.invocation.Invocation.TheVariants.{Names, Get, Exists, Log, Verify, Salvage, Backup, Format, Check}
pub use Rattle.conf_words.specs.declared.invocation.{Invocation.TheVariants.{Diff, DiffFiles}, Span.Span}
pub use Rattle.conf_words.specs.declared.invocation.{MissingValue.MissingValue, NamesForm.NamesForm, Placing.Placing, Reporting.Reporting}
pub use Rattle.conf_words.specs.declared.invocation.{Style.Style, TreeForm.TreeForm, Value.Value, Target.Target, Put.Put}
pub use Rattle.conf_words.specs.declared.invocation.{Alteration.Alteration, Import.Import as AskedImport, Batch.Batch as AskedBatch}
pub use Rattle.conf_words.specs.declared.{invocation.ValueForm.ValueForm, unparsed.Unparsed.{Unparsed, TheVariants.{Shown, Wrong}}}
pub use Rattle.{yaml_config.specs.{Kept.{IsFirstFault, own_limits}, Limits.config_limits}, yaml_data.specs.Seen.tree_of}
pub use Rattle.yaml_events.specs.declared.read_fault.ReadFault.TheVariants.{OutOfMemory, TooLong, NotUtf8}
pub use Rattle.{yaml_forms.specs.Json.{json_line, json_texts}, yaml_grammar.specs.{Style.style_text, Trees.{text, Tree, sequence, mapping}}}
pub use Rattle.{yaml_grammar.specs.Trees.depth, yaml_refusals.specs.Comments.{HasComment, HasNoComment}}
pub use Rattle.{yaml_style.specs.{Checking.IsChecked, Findings.name_of, declared.finding.Finding.Finding}, yaml_tree.specs.Reading.IsRead}
pub use Rattle.yaml_tree.specs.Reading.{Refuses}
pub use Rattle.std.specs.{Io.KnownBytes.{Appends, Keeps, Consumes, IsAtEnd, ReadConsumes}, Str.{chars, IsUtf8}}
pub use Rattle.std.specs.declared.alloc.Global.{Global}
