-- No piece so far is a record.
use Rattle.std.proofs.Common.{◌-◌, length}
use Rattle.conf_store.proofs.{Prelude.StartsLine, KeptLemmas.LacksSoFar}
use Rattle.conf_store.proofs.holes.holds_record.Given as goal

abbrev pub invariant-pieces : goal.invariant-pieces
invariant-pieces l = record { starts : StartsLine l.bytes l.at; lacks : LacksSoFar l.bytes l.at }

abbrev pub decreases-pieces : goal.decreases-pieces
decreases-pieces l = length l.bytes - l.at
