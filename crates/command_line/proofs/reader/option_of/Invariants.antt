-- The arguments before have other names.
use Rattle.std.{proofs.Common.{◌≡◌, drop, map}, specs.Prelude.find}
use Rattle.command_line.specs.{Rows.row_of, Forms.is_option_of}
use Rattle.command_line.proofs.reader.option_of.Given as goal

abbrev pub invariant-loop-argument : goal.invariant-loop-argument
invariant-loop-argument l =
    find (λ a. is_option_of a l.name) (map row_of (drop l.argument-index l.arguments))
    ≡ find (λ a. is_option_of a l.name) (map row_of l.arguments)
