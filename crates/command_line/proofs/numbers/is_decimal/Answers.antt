-- The number doesn't go on with the byte.
use Rattle.std.proofs.Common.{rules}
use Rattle.command_line.{specs.Numbers.is_decimal, proofs.WordLemmas.stops_at}
use Rattle.command_line.proofs.numbers.is_decimal.Goals as goal

pub returns-in-None : goal.returns-in-None
returns-in-None c =
    stops_at c.as_bytes-byte-items.result.now c.loop-byte.byte-index c.loop-byte.part (is_decimal c.args.text.now) (search rules)
    (search rules) c.loop-byte.invariant
