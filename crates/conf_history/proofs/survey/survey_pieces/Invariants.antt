-- What was read is pieces that were performed, from the base on.
use Rattle.std.{proofs.Common.{◌≡◌, ◌-◌, ℕ, List}, specs.Prelude.None}
use Rattle.conf_history.{proofs.Prelude.{store_limit, Command, Contents}, specs.Walks.{IsOn, with_state}}
use Rattle.conf_history.proofs.survey.survey_pieces.Given as goal

abbrev pub invariant-records : goal.invariant-records
invariant-records g l = (pieces : List (List ℕ)) × (start : Contents) × (commands : List Command)
    × IsOn None (g.R.Read.remaining l.fn.reader) (g.R.Read.remaining l.reader)
    (with_state l.walk (g.T.Replayed.contents l.held)) pieces start commands × (l.base ≡ start.count)

abbrev pub decreases-records : goal.decreases-records
decreases-records g l = store_limit - l.walk.place.byte
