-- None of the names before is given.
use Rattle.std.proofs.Common.{◌≡◌, drop, map}
use Rattle.command_line.specs.Words.{has_any}
use Rattle.command_line.proofs.reader.has_any.Given as goal

abbrev pub invariant-loop-name : goal.invariant-loop-name
invariant-loop-name l =
    has_any l.given (map (λ s. s.now) (drop l.name-index l.names)) ≡ has_any l.given (map (λ s. s.now) l.names)
