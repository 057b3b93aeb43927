-- Nothing is wrong of the arguments before.
use Rattle.std.proofs.Common.{◌≡◌, drop, map}
use Rattle.command_line.specs.{Rows.row_of, Words.checked}
use Rattle.command_line.proofs.reader.Reader.finish.Given as goal

abbrev pub invariant-loop-argument : goal.invariant-loop-argument
invariant-loop-argument l =
    checked l.self.given (map row_of (drop l.argument-index l.self.arguments.now)) ≡ checked l.self.given (map row_of l.self.arguments.now)
