-- What was read is pieces that were performed, and their records were written.
use Rattle.std.proofs.Common.{◌≡◌, ◌-◌, ℕ, List}
use Rattle.conf_history.{proofs.Prelude.{Appends, store_limit, Command, Contents}, specs.{Logs.log_of_pieces, Walks.{IsOn, with_state}}}
use Rattle.conf_history.proofs.log.log_each.Given as goal

abbrev pub invariant-records : goal.invariant-records
invariant-records g l = record {
  walked : (pieces : List (List ℕ)) × (start : Contents) × (commands : List Command)
      × IsOn l.at (g.R.Read.remaining l.fn.reader) (g.R.Read.remaining l.reader)
      (with_state l.walk l.logged.part) pieces start commands
      × Appends (g.W.Write.contents l.fn.writer) (g.W.Write.contents l.writer) (log_of_pieces l.fn.request start.count pieces commands);
  form : l.logged.request ≡ l.fn.request;
}

abbrev pub decreases-records : goal.decreases-records
decreases-records g l = store_limit - l.walk.place.byte
