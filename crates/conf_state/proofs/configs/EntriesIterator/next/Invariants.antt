use Rattle.std.proofs.Common.{◌≡◌, length}
use Rattle.conf_state.specs.Places.{present}
use Rattle.conf_state.proofs.configs.EntriesIterator.next.Given as goal

-- the empty places that are passed over hold no configuration
abbrev pub invariant-loop-name : goal.invariant-loop-name
invariant-loop-name l = present l.self-inside.places ≡ l.fn.self

abbrev pub decreases-loop-name : goal.decreases-loop-name
decreases-loop-name l = length l.self-inside.places
