-- What the proofs of this crate name of others.
pub use Rattle.conf_conditions.{proofs.ConditionLemmas.{IsTold, told-first, first-none, first-some}, specs.Conditions.Condition}
pub use Rattle.conf_conditions.specs.Conditions.{first_fault, condition_of, conditions_of, test_at, absent_at, count_is}
pub use Rattle.{conf_conditions.specs.declared.fault.ConditionFault.ConditionFault, conf_disk.proofs.Moments.LeavesOnly-joined}
pub use Rattle.conf_disk.{proofs.Moments.{LeavesOnly-start, LeavesOnly-weaker}, specs.{Folder.{bytes_under, Folder}, Image.Image}}
pub use Rattle.conf_disk.specs.{Image.IsImage, Models.DiskModel, Moments.{LeavesOnly, greatest}, declared.disk.Name.TheVariants.Store}
pub use Rattle.conf_record.proofs.{PieceLemmas.{parts_kept, items_kept}, SizeLemmas.{scalar_most, size, value_size}, TreeLemmas.asked}
pub use Rattle.conf_record.specs.{EditLines.{member_line, lines_of}, Reading.{AreKeptElements, texts, edit_seen, AreKept}}
pub use Rattle.{conf_record.specs.RecordsRead.{keys_are, values, edit_under, number_from_digits}, conf_state.proofs.BaseLemmas.count_line}
pub use Rattle.conf_state.proofs.{BaseLemmas.{count_bytes, base_length-framed}, LineLemmas.ascii, RefusalLemmas.accepted-room}
pub use Rattle.conf_state.{proofs.RunLaws.{and_then-Ok, step-one}, specs.BaseTexts.{base_length, entries_length}}
unfoldable pub use Rattle.conf_state.specs.BaseTexts.{entry_length}
pub use Rattle.conf_about.{proofs.{FaultLemmas.about-None, ReadLemmas.about-good}, specs.Abouts.{fault_of, IsAbout, pair_count}}
pub use Rattle.{conf_about.specs.ReadBack.AdmitsAbouts, conf_record.specs.{Formats.base_in, Records.with_last}}
pub use Rattle.{conf_record.proofs.AboutLemmas.pairs-last, conf_state.specs.Commands.{noted, has_about, Edit, import_as, set_at, delete_at}}
pub use Rattle.conf_state.specs.{Commands.{Command, single, batch, name_of, command_of, edit_of, text_of}, Limits.{IsState, AreConfigs}}
pub use Rattle.conf_state.specs.{Names.{good_name, small_letter, name_char}, States.{Contents, Entry, config_named, base_limit}}
pub use Rattle.conf_state.specs.{States.{count_limit, names_of}, Steps.{step, edited, all_edited, performed, configs_after, with_room}}
pub use Rattle.conf_state.specs.Steps.{next_state, and_then, checked_tree, with_checked_config, found, by_path, configs_after_delete, after}
pub use Rattle.conf_state.specs.declared.{fault.StoreFault.{StoreFault, TheVariants.{Path, Reopen, Device, OutOfMemory}}, room.Room.Room}
pub use Rattle.{conf_state.specs.declared.room.Room.TheVariants.{Enough, LongRecord, Missing}, conf_store.proofs.HeldLemmas.prefix-longer}
pub use Rattle.conf_store.proofs.{HeldLemmas.after-nothing, MeaningLemmas.{after-done, after-joined}, StepLemmas.accepted-anyway}
pub use Rattle.conf_store.specs.Calls.{tree_named, tree_at, outcome, room_for, HasFailed, next_record, journal_length, AcceptsBy, renews}
pub use Rattle.conf_store.specs.{Calls.{staged_with, RefusesCommand}, Changing.{file_with, new_file_with, flushed_with, waiting_with}}
pub use Rattle.conf_store.specs.{Durable.{MeansPrefix, HasFlushed, staged_text, AllImagesMean}, Imports.{RefusesText, IsImportOf}}
pub use Rattle.conf_store.specs.{Meaning.ImageMeans, Slices.{StaysTheSame, Begins, SlicesPart, SlicesLast, Slices, SliceReads}}
pub use Rattle.conf_store.specs.{Slices.SliceFlushes, Staged.{Staged, staged_length, with_more, slice_limit, after_slice}, View.StoreView}
pub use Rattle.json_pointer.specs.{Pointers.{path_of, tokens_or_place, bad_place}, declared.fault.PathFault.PathFault}
pub use Rattle.tree_path.specs.{Paths.{at, at_from, at_step, child, refusal, put, cut, set, delete, edit_from}, declared.place.Miss.Miss}
pub use Rattle.{yaml_chars.specs.Classes.{code_point, is_in, ns, white, indicator, line_break}, yaml_config.proofs.Located.child-within}
pub use Rattle.{yaml_config.specs.{Kept.{own_limits, IsKept}, Limits.config_limits}, yaml_data.proofs.CharacterLemmas.every-IsAscii}
pub use Rattle.yaml_data.{proofs.SeenLemmas.{tree_of-Text, join_elements, elements_of-append, tree_of-Seq, tree_of-Map}, specs.Seen.tree_of}
pub use Rattle.yaml_data.specs.{Seen.{elements_of, Pair, members_of}, TextBytes.text_bytes, declared.tree.Tree.{Text, Seq}}
pub use Rattle.{yaml_events.specs.declared.read_fault.ReadFault.ReadFault, yaml_grammar.specs.{Closings.{ClosesOnce, ClosesAt}, Reads.Good}}
pub use Rattle.yaml_grammar.specs.{Reads.{Gives, Presents, CanRead, Limits}, Style.{style_text, word_char, plain_in_style}}
pub use Rattle.yaml_grammar.specs.Style.{literal_in_style, literal_mark, literal_lines, feeds_at_end, in_double_quotes, scalar_lines}
pub use Rattle.yaml_grammar.specs.Style.{long_key, key_lines, value_at, members_at, members_after, elements_after, key_text}
pub use Rattle.yaml_grammar.specs.{Texts.{byte_len, IsText, spaces, first, same_text, starts_line}, Trees.{Tree, text, sequence, Elements}}
pub use Rattle.yaml_grammar.specs.Trees.{no_element, element, depth, elements_depth, mapping, no_member, member, has_key, AreTextMembers}
pub use Rattle.yaml_grammar.specs.Trees.{AreTextElements, members_depth, members_distinct, Members, scalar_of, seq_from, seq_to, map_from}
pub use Rattle.yaml_grammar.specs.Trees.{map_to, document_from, document_to, shape, shapes, elements_distinct, distinct, IsTextTree}
pub use Rattle.yaml_grammar.specs.Trees.{tree_shapes, elements_shapes, members_shapes, IsTreeOf}
pub use Rattle.yaml_recognizers.{proofs.OneStyle.Characters.every_joined, specs.Closings.{framed_text, framed_text_bytes}}
pub use Rattle.yaml_writer.{proofs.ByteLemmas.{byte_len-chars, byte_len-encoded}, specs.{BudgetLaws.byte_len-append, Runs.stands_alone}}
pub use Rattle.yaml_writer.specs.{ScalarStyles.key_style, declared.scalar_style.ScalarStyle.TheVariants.{Plain, Double}}
pub use Rattle.std.proofs.KnownBytes.{Keeps-refl, Appends-trans, Appends-kept, Appends-nil, Consumes-nil, Consumes-trans}
pub use Rattle.std.proofs.lemmas.Bool.{and_parts, and_from, ltb-true, false≢true, cases_lt, or_left, or_right, not-true, not_from_false}
pub use Rattle.std.proofs.lemmas.Bool.{le-leb, ltb-false, leb-true, agree_below, agree_below_at, eqb-false, eqb-true, eq-eqb, ne_eqb}
pub use Rattle.std.proofs.lemmas.{Bool.{le-ltb, Decides.nat_tests}, Fmt.{decimal_is_IsNumeral, length-decimal-le}, List.append-nil}
pub use Rattle.std.proofs.lemmas.List.{map-append, take-append-le, take_all, length-take-le, length-map, take_more, get_or-map}
pub use Rattle.std.proofs.lemmas.{List.{length-append, Elements.{All-nil, All-push, All-append}, Folds.concat-append}, Option.IfSome_then}
pub use Rattle.std.proofs.lemmas.{Result.{on_ok_weaker, IfOk-weaker, err_from_is_err_and}, Str.{chars-IsAscii, encodes-chars}}
pub use Rattle.std.proofs.lemmas.Str.{encodes-IsAscii, chars-nil, Pattern.{split_parts, split_text_parts, strip_prefix_char}}
pub use Rattle.std.specs.{Io.KnownBytes.{Appends, Keeps, Consumes}, List.{list_all, concat}, Str.{chars, IsUtf8, IsAscii}}
pub use Rattle.std.specs.{Vec.Iter.{into_iter_items, into_iter_len}, declared.alloc.Global.Global}
