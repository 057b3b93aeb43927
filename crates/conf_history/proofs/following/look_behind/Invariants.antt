-- What was read since is pieces, and bytes that are in no piece yet.
use Rattle.std.proofs.Common.{◌≤◌, ◌-◌, ◌+◌, length}
use Rattle.conf_history.{specs.Prelude.is_several, proofs.Prelude.{ahead, bytes_read, piece_or_rest, store_limit}}
use Rattle.conf_history.proofs.SurveyLemmas.{CountsSoFar, IsKnown}
use Rattle.conf_history.proofs.following.look_behind.Given as goal

abbrev pub invariant-pieces : goal.invariant-pieces
invariant-pieces g l = record {
  so_far : CountsSoFar (g.R.Read.remaining l.fn.reader) (g.R.Read.remaining l.reader) l.fn.pieces l.pieces l.count;
  few : l.count ≤ store_limit + 65536;
  known : IsKnown (is_several l.fn.waiting) l.is_kept (piece_or_rest l.fn.pieces) so_far.further;
}

abbrev pub decreases-pieces : goal.decreases-pieces
decreases-pieces g l = (store_limit - bytes_read l.pieces) + length (ahead l.pieces)
