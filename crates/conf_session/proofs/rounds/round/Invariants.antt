-- The pieces so far are performed and answered.
use Rattle.std.proofs.Common.{◌≡◌, ◌≤◌, false, length, take}
use Rattle.conf_session.{specs.Rounds.{answer_bytes, piece_bytes}, proofs.RoundLemmas.RoundSoFar}
use Rattle.conf_session.proofs.rounds.round.Given as goal

abbrev pub invariant-turns : goal.invariant-turns
invariant-turns g l = let d = g.D.Disk in record {
  off : l.fn.store.reopen ≡ false;
  sound : l.store.reopen ≡ false;
  so_far : RoundSoFar d.model l.fn.store l.store (take l.piece-index (piece_bytes l.pieces)) (answer_bytes l.answers.items);
  risen : d.model.failure_count l.fn.store.disk ≤ d.model.failure_count l.store.disk;
  few : length l.answers.items ≡ l.piece-index;
}
