-- The pieces so far are performed, and their answers are kept; a further piece is in hand.
use Rattle.std.{proofs.Common.{◌≡◌, ◌≤◌, ◌++◌, false, length}, specs.Prelude.None}
use Rattle.conf_session.specs.{Input.{piece_or_rest as piece_of, ahead, bytes_read}, Gathering.{HasRoomFor, IsAtPiece, GathersPieces}}
use Rattle.conf_session.proofs.groups.submit_group.Given as goal

abbrev pub invariant-pieces : goal.invariant-pieces
invariant-pieces g l = let d = g.D.Disk in record {
  sound : l.store.reopen ≡ false;
  piece : IsAtPiece l.input;
  no_last : l.answers.last ≡ None;
  room : HasRoomFor l.answers (length (piece_of l.input ++ ahead l.input)) (bytes_read l.input);
  read : bytes_read l.input ≡ bytes_read l.fn.input;
  less : length (ahead l.input) ≤ length (ahead l.fn.input);
  first : l.fn.answers.limit ≡ 0 → l.answers.tally.documents ≡ l.fn.answers.tally.documents;
  so_far : GathersPieces d.model (piece_of l.fn.input ++ ahead l.fn.input)
      (piece_of l.input ++ ahead l.input) l.fn.store l.store l.fn.answers l.answers;
  risen : d.model.failure_count l.fn.store.disk ≤ d.model.failure_count l.store.disk;
}

abbrev pub decreases-pieces : goal.decreases-pieces
decreases-pieces g l = length (ahead l.input)
