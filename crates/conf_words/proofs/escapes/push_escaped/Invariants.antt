-- What is left of the escape ends what was appended so far to the whole of it.
use Rattle.std.{proofs.Common.{◌≡◌, ◌++◌, string_bytes, encode_utf8_all}, specs.Char.{Escape.escape_default, Iter.escape_rest}}
use Rattle.conf_words.proofs.escapes.push_escaped.Given as goal

abbrev pub invariant-loop-part : goal.invariant-loop-part
invariant-loop-part l =
    string_bytes l.shown ++ encode_utf8_all (escape_rest l.part-iterator)
    ≡ string_bytes l.initial.shown ++ encode_utf8_all (escape_default l.fn.c)
