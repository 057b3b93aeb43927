-- What is left goes on so behind the part.
use Rattle.std.{proofs.Common.{◌≡◌, drop}, specs.Prelude.Some}
use Rattle.command_line.specs.Numbers.{goes_on, is_decimal}
use Rattle.command_line.proofs.numbers.is_decimal.Given as goal

abbrev pub invariant-loop-byte : goal.invariant-loop-byte
invariant-loop-byte l = goes_on (drop l.byte-index l.byte-items) (Some l.part) ≡ is_decimal l.fn.text
