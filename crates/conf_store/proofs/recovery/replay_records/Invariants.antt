-- What was performed so far.
use Rattle.std.proofs.Common.{◌≤◌, ◌-◌, length}
use Rattle.conf_store.proofs.{Prelude.{IsState, StartsLine}, RecoveryLemmas.Replayed}
use Rattle.conf_store.proofs.recovery.replay_records.Given as goal

abbrev pub invariant-records : goal.invariant-records
invariant-records g l = record {
  starts : StartsLine l.records l.at;
  read : Replayed (g.T.Replayed.contents l.fn.held) l.records l.at (g.T.Replayed.contents l.held) l.commands;
  limits : IsState (g.T.Replayed.contents l.fn.held) → IsState (g.T.Replayed.contents l.held);
  few : l.commands ≤ l.at;
}

abbrev pub decreases-records : goal.decreases-records
decreases-records g l = length l.records - l.at
