use Rattle.std.proofs.Common.{◌≡◌, ℕ, List, vec_len}
use Rattle.conf_state.specs.{Kept.{entries_of, ArePlain}, States.Entry, Trails.Trail}
use Rattle.conf_state.proofs.sets.take_back.Given as goal

abbrev pub invariant-loop-last : goal.invariant-loop-last
invariant-loop-last l =
    ArePlain l.configs
    × ((start : List Entry) → Trail start l.fn.made.items (entries_of l.fn.configs) → Trail start l.left.items (entries_of l.configs))

abbrev pub decreases-loop-last : goal.decreases-loop-last
decreases-loop-last l = vec_len l.left
