-- What was read is pieces that were performed, up to the number at most.
use Rattle.std.proofs.Common.{◌-◌, ℕ, List}
use Rattle.conf_history.{proofs.Prelude.{store_limit, Command, Contents}, specs.Walks.{IsOn, with_state}}
use Rattle.conf_history.proofs.reading.read_up_to.Given as goal

abbrev pub invariant-records : goal.invariant-records
invariant-records g l = (pieces : List (List ℕ)) × (start : Contents) × (commands : List Command)
    × IsOn l.at (g.R.Read.remaining l.fn.reader) (g.R.Read.remaining l.reader)
    (with_state l.walk (g.T.Replayed.contents l.held)) pieces start commands

abbrev pub decreases-records : goal.decreases-records
decreases-records g l = store_limit - l.walk.place.byte
