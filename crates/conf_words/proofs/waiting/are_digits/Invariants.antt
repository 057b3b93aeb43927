-- The bytes before are digits.
use Rattle.std.proofs.Common.{◌≡◌, drop}
use Rattle.conf_words.specs.Waits.{are_digits}
use Rattle.conf_words.proofs.waiting.are_digits.Given as goal

abbrev pub invariant-loop-byte : goal.invariant-loop-byte
invariant-loop-byte l = are_digits (drop l.byte-index l.byte-items) ≡ are_digits l.fn.text
