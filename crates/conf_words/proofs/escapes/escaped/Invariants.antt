-- What is left, escaped, ends what was appended so far to what all of it is.
use Rattle.std.{proofs.Common.{◌≡◌, ◌++◌, length, drop, string_bytes, encode_utf8_all}, specs.Str.chars}
use Rattle.conf_words.specs.Escapes.{escaped}
use Rattle.conf_words.proofs.escapes.escaped.Given as goal

abbrev pub invariant-loop-c : goal.invariant-loop-c
invariant-loop-c l =
    string_bytes l.shown ++ encode_utf8_all (escaped (drop (length l.yielded) (chars l.text)))
    ≡ encode_utf8_all (escaped (chars l.text))
