-- What is kept so far, and the empty lines above the lines from here on, are what is kept behind the loop.
use Rattle.std.proofs.Common.{◌≡◌, ◌++◌}
use Rattle.comments_kept.specs.{Keeping.HasNoBlankLine, Places.{empties_between, marks_of}, Weaving.texts_of}
use Rattle.comments_kept.proofs.plan.push_empty_lines.Given as goal

abbrev pub invariant-loop-row : goal.invariant-loop-row
invariant-loop-row l =
    (marks_of l.kept.items ++ empties_between l.bytes l.rows l.row l.to
    ≡ marks_of l.initial.kept.items ++ empties_between l.bytes l.rows l.fn.from l.to)
    × (texts_of l.kept.items ≡ texts_of l.initial.kept.items) × (HasNoBlankLine l.bytes → l.kept.items ≡ l.initial.kept.items)
