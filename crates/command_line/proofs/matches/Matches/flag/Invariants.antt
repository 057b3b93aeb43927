-- What was given before has other names.
use Rattle.std.proofs.Common.{◌≡◌, drop, map}
use Rattle.command_line.specs.Matches.{has}
use Rattle.command_line.proofs.matches.Matches.flag.Given as goal

abbrev pub invariant-loop-given : goal.invariant-loop-given
invariant-loop-given l =
    has (map (λ g. (g.name.now, g.text.now)) (drop l.given-index l.given-items)) l.name ≡ has l.fn.self l.name
