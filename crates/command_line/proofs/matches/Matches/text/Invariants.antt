-- What was given before has other names.
use Rattle.std.proofs.Common.{◌≡◌, drop, map}
use Rattle.command_line.specs.Matches.{text_of}
use Rattle.command_line.proofs.matches.Matches.text.Given as goal

abbrev pub invariant-loop-given : goal.invariant-loop-given
invariant-loop-given l =
    text_of (map (λ g. (g.name.now, g.text.now)) (drop l.given-index l.given-items)) l.name ≡ text_of l.fn.self l.name
