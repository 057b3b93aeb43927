-- What the proofs of this crate name of others.
pub use Rattle.std.proofs.{Math.Seq.{take-append_seam, drop-append_seam, take-append-add}, lemmas.Bool.{cases_lt, and_parts, and_from}}
pub use Rattle.std.proofs.lemmas.Bool.{and_left, false≢true, cond-true, cond-false, ne_eqb, not-true, or_parts, eqb-false, and_right}
pub use Rattle.std.proofs.lemmas.Bool.{cases_Bool, eq-eqb, or_cases, eqb-true, or_left, or_right, or_from, cond_both, not_from_false}
pub use Rattle.std.proofs.lemmas.{Bool.{not_from_true, not-false, Decides.nat_tests}, List.{get_or-take, get_or-drop, drop_more}}
pub use Rattle.std.proofs.lemmas.List.{append_cancel_right, length-take, drop_all, Sums.{list_all-from_AllPass, AllPass-from_list_all}}
pub use Rattle.std.proofs.lemmas.{Result.{err_from_is_err_and, IfOk-weaker, IfErr-weaker}, Str.{chars-nil, chars-append, chars-encodes}}
pub use Rattle.std.proofs.lemmas.Str.{IsUtf8-nil, IsCharBoundary-after_ascii, IsCharBoundary-start, chars-IsAscii}
pub use Rattle.std.{proofs.lemmas.Str.{IsCharBoundary-before_ascii, IsUtf8-string_bytes, len_utf8_bounds}, specs.Char.encode_utf8}
pub use Rattle.std.specs.{Char.{OutOfScalarRange, len_utf8}, List.{list_all, AllPass}, Str.{IsUtf8, IsCharBoundary, IsAscii}}
unfoldable pub use Rattle.std.specs.Str.{chars}
pub use Rattle.std.specs.String.{string_bytes}
pub use Rattle.yaml_chars.proofs.Places.{IsCharAt, char_at, rest-end, rest-between, between-append, rest-ascii, code_point-scalar}
pub use Rattle.yaml_chars.proofs.{Places.{between-nil, between-push_ascii, encodes-between, between-ascii}, Runs.run_stops}
pub use Rattle.yaml_chars.proofs.Runs.{blind-line_break, test-char_at, IsBlind, blind-white, test-between, last_char, test-last_char}
pub use Rattle.yaml_chars.specs.{Breaks.NoBreak, Classes.{white, line_break, is_in, code_point, space, ns, indicator, nb_json}, Places.rest}
pub use Rattle.{yaml_chars.specs.Places.{between, IsRun}, yaml_events.specs.EventPlaces.{line_starts, without_mark, Refuses}}
pub use Rattle.{yaml_events.specs.Meant.context_of, yaml_grammar.specs.Events.{double_style, Style, plain_style, single_style}}
pub use Rattle.yaml_grammar.specs.FlowScalars.{FlowContext, one_line, line_feeds, folded_break, escape, hex_digit, digit_of, hex_value}
pub use Rattle.yaml_grammar.specs.FlowScalars.{digits_after, quoted_char_fits, escaped_char, Line, QuotedChar, raw, Scalar, plain, single}
pub use Rattle.yaml_grammar.specs.FlowScalars.{double, style_of, quoted_char_text, is_blank_char, quoted_char_value, double_kind, ends}
pub use Rattle.yaml_grammar.specs.FlowScalars.{values, flow_fold, FlowEmptyLine, outer, inner, block_key, flow_key, plain_next, plain_run}
pub use Rattle.yaml_grammar.specs.FlowScalars.{plain_line, plain_more, plain_lines, plain_kind, plain_text, single_text, line_text}
pub use Rattle.yaml_grammar.specs.FlowScalars.{lines_text, join_text, flow_empties_text, lines_after, scalar_text, scalar_fits, plain_first}
pub use Rattle.yaml_grammar.specs.{FlowScalars.{char_value, line_value, safe, single_kind}, Separation.{Break, lf, cr, cr_lf, break_text}}
pub use Rattle.yaml_grammar.specs.{Separation.indents, Texts.{first, begins, marker, no_marker, spaces, starts_line, is_empty}}
pub use Rattle.yaml_recognizers.proofs.Basics.{Blanks.{white_at_break, no_white_at_break, drop_while_first}, Breaks.{BreakOf, break_sound}}
pub use Rattle.yaml_recognizers.proofs.Basics.{Breaks.{break_some, unbroken}, Prefixes.{drop_while_all, take_while_all}, Reading.sound_is}
pub use Rattle.yaml_recognizers.proofs.{Basics.Reading.{none_some, some_parts, chosen, on_parts}, Scalars.JoinSteps.step_escaped}
pub use Rattle.yaml_recognizers.proofs.Scalars.JoinSteps.{no_break, Passed, no_lead, passed_all, passed_more, step_break, step_lead}
pub use Rattle.yaml_recognizers.proofs.Scalars.{Joins.{unescaped_read, empty_shrinks}, PlainRuns.{no_run, no_run_at_end, unplain}}
pub use Rattle.yaml_recognizers.proofs.Scalars.{PlainRuns.plain_unbroken, PlainScalars.{plain_texts, plain_read, plain_sound}}
pub use Rattle.yaml_recognizers.proofs.Scalars.PlainSteps.{step_begin, no_begin, line_after_join, no_line_no_join, lines_of_key}
pub use Rattle.yaml_recognizers.proofs.Scalars.PlainSteps.{no_more_lines, one_more_line, step_char, step_white, stop_white}
pub use Rattle.yaml_recognizers.proofs.Scalars.QuotedSteps.{value_of_thing, value_of_things, value_of_join, step_thing, step_things}
pub use Rattle.yaml_recognizers.proofs.Scalars.QuotedSteps.{step_close, step_fault, step_key, step_join, after_thing, after_close}
pub use Rattle.yaml_recognizers.proofs.Scalars.{QuotedSteps.after_fault, WholeScalars.{is_scalar, no_scalar, whole_stands}}
pub use Rattle.yaml_recognizers.specs.{Comments.read_break, FlowScalars.Stands}
unfoldable pub use Rattle.yaml_recognizers.specs.FlowScalars.{read_scalar, scalar_ends}
pub use Rattle.yaml_recognizers.specs.Joins.{Join, at_break, with_lead, line_of}
unfoldable pub use Rattle.yaml_recognizers.specs.Joins.{read_join, after_blank, read_empty}
pub use Rattle.yaml_recognizers.specs.PlainScalars.{with_lines, plain_lines_at, with_run, read_plain_line}
unfoldable pub use Rattle.yaml_recognizers.specs.PlainScalars.{read_run, read_plain, last_of}
pub use Rattle.yaml_recognizers.specs.{Prefixes.{past, take_while, drop_while}, QuotedScalars.{read_number, read_quoted, quote}}
unfoldable pub use Rattle.yaml_recognizers.specs.QuotedScalars.{read_held, read_item, double_closes, read_double, read_single}
unfoldable pub use Rattle.yaml_recognizers.specs.QuotedScalars.{read_single_one, single_closes}
pub use Rattle.yaml_recognizers.specs.{QuotedSteps.{with_prefix, join_value, read_after_join, quoted_value, with_join}, Reading.{Read, on}}
pub use Rattle.yaml_recognizers.specs.{Repeated.all_of, WholeScalars.{IsScalar, NoScalar, StandsWhole}}
pub use Rattle.yaml_scan.proofs.{ByteRuns.{ascii_at_beginning, first-rest, spaces_there, ascii_prefix, first_there}, ByteSigns.sign_there}
pub use Rattle.yaml_scan.proofs.{ByteSigns.past_end, Outcomes.{fault_kept, refuses, fault_passed, refuses_so, none_so, some_so, err_so}}
pub use Rattle.yaml_scan.{proofs.Outcomes.ok_so, specs.{Classes.{double_quoted, simple, word}, ScanPlaces.{IsBreak, is_sign, AreSpaces}}}
