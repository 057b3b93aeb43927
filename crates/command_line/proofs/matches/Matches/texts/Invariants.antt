-- The texts so far, and those of what is left, are all texts.
use Rattle.std.proofs.Common.{◌≡◌, ◌++◌, drop, map}
use Rattle.command_line.specs.Matches.{texts_of}
use Rattle.command_line.proofs.matches.Matches.texts.Given as goal

abbrev pub invariant-loop-given : goal.invariant-loop-given
invariant-loop-given l =
    map (λ s. s.now) l.texts.items
    ++ texts_of (map (λ g. (g.name.now, g.text.now)) (drop l.given-index l.given-items)) l.name
    ≡ texts_of l.fn.self l.name
