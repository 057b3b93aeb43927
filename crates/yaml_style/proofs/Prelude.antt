-- What the proofs of this crate name of others.
pub use Rattle.std.proofs.lemmas.Bool.{eq-eqb, eqb-true, false≢true, and_parts, cases_lt, cases_Bool, or_from, lt-ltb, le-ltb, eqb-false}
pub use Rattle.std.proofs.lemmas.{Bool.{MatchBool-at_true, MatchBool-at_false}, List.{take_at, append_cancel_right, drop_all}}
pub use Rattle.std.proofs.lemmas.{List.replicate-append-replicate, Result.{on_ok_weaker, err_from_is_err_and}, Str.chars-append}
pub use Rattle.std.proofs.lemmas.Str.{encodes-append, encodes-chars, IsUtf8-take, IsCharBoundary-at_seam, encode_ascii, length-le-encodes}
pub use Rattle.std.{proofs.lemmas.Str.{IsCharBoundary-start, chars-nil}, specs.{List.{list_all, position_or_len}, Str.IsUtf8}}
pub use Rattle.std.specs.Str.{IsCharBoundary}
unfoldable pub use Rattle.std.specs.Str.{chars}
pub use Rattle.yaml_chars.{proofs.Places.{rest-end, rest-between}, specs.Breaks.{StartsWithBreak, cr_lf, lf, cr, no_break, NoBreak}}
pub use Rattle.yaml_chars.specs.{Breaks.EndsLine, Classes.{line_break, white}, Places.{rest, between}, Signs.{next_line, line_separator}}
pub use Rattle.yaml_chars.specs.Signs.{paragraph_separator, byte_order_mark, line_feed, carriage_return, tab, space_char}
pub use Rattle.{yaml_config.specs.Limits.config_limits, yaml_grammar.specs.Texts.{same_text, first, is_empty, spaces, byte_len}}
pub use Rattle.yaml_writer.proofs.ByteLemmas.{byte_len-spaces, byte_len-chars}
