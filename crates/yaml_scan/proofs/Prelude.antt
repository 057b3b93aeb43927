-- What the proofs of this crate name of others.
pub use Rattle.std.proofs.lemmas.Bool.{cases_lt, le-leb, lt-leb, lt-ltb, not-false, not-true, agree_below, agree_below_at, cases_Bool}
pub use Rattle.std.proofs.lemmas.Bool.{cond-false, ne_eqb, and_parts, cond-true, eqb-true, false≢true, and_from, or_left, Decides.nat_tests}
pub use Rattle.std.proofs.lemmas.{List.{length-map, append_cancel_right, drop_all, drop_more, get_or-map}, Simd.{map-map, mask_l-mod}}
pub use Rattle.std.proofs.lemmas.Simd.{length-chunk, first_set_mask_l, run_in_chunk_fails, run_in_chunk_le, run_in_chunk_stops}
pub use Rattle.std.proofs.lemmas.{Simd.{zip2_of_maps, zip2_splat, splat_is_map}, Str.{length-encode, length-le-encodes, len_utf8_bounds}}
pub use Rattle.std.proofs.lemmas.Str.{IsCharBoundary-before_ascii, IsCharBoundary-after_ascii, chars-encodes, IsCharBoundary-start}
pub use Rattle.std.{proofs.lemmas.Str.chars_from_encodes, specs.{Char.len_utf8, List.{list_all, prefix_len, range_with_len}, Str.IsUtf8}}
pub use Rattle.std.specs.Str.{IsCharBoundary, chars}
pub use Rattle.yaml_chars.proofs.Places.{between-append, between-ascii, encodes-between, char_at, rest-end, rest-ascii, rest-between}
pub use Rattle.yaml_chars.proofs.{Places.{between-nil, same_place}, Runs.{blind-no_break, test-between, IsBlind, blind-line_break, run_is}}
pub use Rattle.yaml_chars.proofs.Runs.{run_stops, test-char_at, blind-space, blind-not, blind-or, blind-white, last_char, test-last_char}
pub use Rattle.yaml_chars.specs.{Breaks.no_break, Classes.{line_break, nb, space, ns, white}, Places.{between, rest, IsRun}}
pub use Rattle.yaml_events.specs.{EventPlaces.{line_starts, without_mark, Refuses}, Meant.context_of}
pub use Rattle.yaml_grammar.specs.{BlockScalars.{spaces_before, past_spaces}, FlowScalars.{FlowContext, inner, outer, one_line, line_feeds}}
pub use Rattle.yaml_grammar.specs.{FlowScalars.{safe, block_key, flow_key}, Separation.{Break, lf, cr, cr_lf, LineEnd, Sep, break_text}}
pub use Rattle.yaml_grammar.specs.Separation.{comment_fits, comment_text, gap_text, indents, inline, lines, comment_line_fits}
pub use Rattle.yaml_grammar.specs.{Separation.{line_end_text, stop_fits}, Texts.{first, spaces, begins, ends_word, marker, is_empty}}
pub use Rattle.{yaml_grammar.specs.Texts.{optional, starts_line}, yaml_recognizers.proofs.Basics.Prefixes.{drop_while_all, spaces_counted}}
pub use Rattle.yaml_recognizers.proofs.Basics.Prefixes.{spaces_passed, take_while_all, take_while_every, every_space, spaces_split}
pub use Rattle.yaml_recognizers.proofs.{Basics.{Prefixes.take_while_split, Reading.sound_is}, Separation.CommentsComplete.solid_no_line}
pub use Rattle.yaml_recognizers.proofs.Separation.{CommentsComplete.{no_line, not_line_end}, CommentsDepth.{gap_step, inline_step}}
pub use Rattle.yaml_recognizers.proofs.Separation.{CommentsDepth.comments_step, CommentsSound.{LineOf, line_sound, StopOf, stop_sound}}
pub use Rattle.yaml_recognizers.proofs.Separation.{CommentsSound.no_line_end, LineEnds.{line_parts, line_regrouped}}
pub use Rattle.yaml_recognizers.specs.{CanonicalComments.{hash, is_line_end, stops}, Comments.{read_break, read_cr, read_stop}}
pub use Rattle.yaml_recognizers.specs.Comments.{all_comments, read_line_end, closes_line, more_comments, read_after_blank}
pub use Rattle.yaml_recognizers.specs.{Comments.line_end_with_stop, Ends.solid, Prefixes.{drop_while, take_while, sign, past}}
