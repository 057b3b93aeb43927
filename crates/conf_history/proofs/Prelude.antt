-- What the proofs of this crate name of others.
pub use Rattle.conf_disk.{proofs.Moments.LeavesOnly-weaker, specs.{Folder.{File, Folder}, Models.DiskModel}}
pub use Rattle.{conf_journal.specs.Store.{IsStoreOf, LeavesStoreOr, store_limit}, conf_record.specs.Documents.{RecordsTear, TornRecords}}
pub use Rattle.conf_record.specs.Documents.{record_pieces, records_bytes, IsRecord, IsBase, IsNoBase, IsNoRecord}
pub use Rattle.conf_state.{proofs.{LineLemmas.ascii, RunLaws.{after-count, step-one}}, specs.Commands.{Command, command_of, edit_of}}
pub use Rattle.conf_state.specs.{Commands.text_of, Limits.IsState, States.Contents, declared.room.Room.TheVariants.Enough}
pub use Rattle.conf_store.proofs.{HoleLemmas.zero-no-record, MeaningLemmas.{no-others, after-prefix, records-joined, records-prefix}}
pub use Rattle.conf_store.proofs.{MeaningLemmas.{after-joined, after-done, pieces-mean-more}, PieceLemmas.{no_closing, pieces-joined}}
pub use Rattle.conf_store.{proofs.RecoveryLemmas.{cut-apart, first-closes, first-no-base, no-closing-no-base}, specs.Durable.HolesMean}
pub use Rattle.conf_store.specs.{Holes.{HoldsRecord, IsAnyRecord, IsKept, MayBeDropped}, Meaning.{AreRecords, FileMeans, PiecesMean, Means}}
pub use Rattle.conf_store.specs.{NextRecords.RefusesRecord, Opens.{RecoversTo, RefusesBytes}, declared.records.RecordFault.RecordFault}
pub use Rattle.{yaml_data.specs.Seen.tree_of, yaml_docs.specs.NextClosing.{IsNextClosing, StartsLine, NoClosingAfter}}
pub use Rattle.yaml_docs.specs.PieceReading.{piece_or_rest, ahead, Advances, AdvancesToPiece, IsSound, bytes_read, AdvancesToEnd}
pub use Rattle.{yaml_docs.specs.PieceReading.{FindsTooLong, FindsInputLong, input_limit, piece_limit}, yaml_grammar.specs.Closings.ClosesAt}
pub use Rattle.{yaml_grammar.specs.{Closings.{ClosesOnce, Pieces}, Style.in_double_quotes}, yaml_recognizers.specs.Closings.SomePieces}
pub use Rattle.yaml_recognizers.specs.Zeroed.{NoZeroByte, no_zero, StartsWithHole}
pub use Rattle.std.proofs.{KnownBytes.{Consumes-whole, Appends-nil, Appends-trans, Consumes-nil, Consumes-trans}, lemmas.List.append-nil}
pub use Rattle.std.proofs.lemmas.List.{drop_all, drop_more, length-replicate, Elements.{All-nil, All-cons, All-head, All-tail, All-append}}
pub use Rattle.std.proofs.lemmas.{List.{Elements.All-push, Folds.concat-append}, Result.{err_from_is_err_and, on_ok_weaker}}
pub use Rattle.std.{proofs.lemmas.Str.{IsUtf8-from_ascii, chars-IsAscii}, specs.{Io.KnownBytes.{Appends, Consumes}, List.{All, concat}}}
pub use Rattle.std.specs.{List.list_all, Str.{IsUtf8, chars}}
