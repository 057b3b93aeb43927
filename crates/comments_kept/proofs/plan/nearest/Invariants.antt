-- What is nearest from here on is nearest from the start.
use Rattle.std.{proofs.Common.{◌≡◌, ◌-◌, length}, specs.Prelude.None}
use Rattle.comments_kept.specs.Places.{holders}
use Rattle.comments_kept.specs.Places as place
use Rattle.comments_kept.proofs.plan.nearest.Given as goal

abbrev pub invariant-loop-walked : goal.invariant-loop-walked
invariant-loop-walked l =
    place.nearest l.column l.best (holders (length l.collections - l._walked) l.collections l.next)
    ≡ place.nearest l.column None (holders (length l.collections) l.collections l.fn.level)
