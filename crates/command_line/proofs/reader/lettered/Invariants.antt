-- The arguments before have another letter, or none.
use Rattle.std.{proofs.Common.{◌≡◌, drop, map}, specs.Prelude.find}
use Rattle.command_line.specs.{Rows.row_of, Forms.has_letter}
use Rattle.command_line.proofs.reader.lettered.Given as goal

abbrev pub invariant-loop-argument : goal.invariant-loop-argument
invariant-loop-argument l =
    find (λ a. has_letter a.kind l.letter) (map row_of (drop l.argument-index l.arguments))
    ≡ find (λ a. has_letter a.kind l.letter) (map row_of l.arguments)
