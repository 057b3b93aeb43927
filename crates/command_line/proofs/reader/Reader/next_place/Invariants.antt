-- The arguments before are no next place.
use Rattle.std.proofs.Common.{◌≡◌, drop, map}
use Rattle.command_line.specs.{Rows.row_of, Words.next_place}
use Rattle.command_line.proofs.reader.Reader.next_place.Given as goal

abbrev pub invariant-loop-argument : goal.invariant-loop-argument
invariant-loop-argument l =
    next_place (map row_of (drop l.argument-index l.self.arguments.now)) l.self.given
    ≡ next_place (map row_of l.self.arguments.now) l.self.given
