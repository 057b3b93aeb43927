-- What was read so far is pieces that were performed, flushed and answered, and bytes that are not looked at yet.
use Rattle.std.{proofs.Common.{◌≡◌, ◌≤◌, ◌+◌, ◌-◌, [], false, length}, specs.Prelude.None}
use Rattle.conf_session.specs.{Input.{IsSound, ahead, bytes_read, session_limit}, Gathering.{HasRoomFor, unwritten_bytes}}
use Rattle.conf_session.{specs.Groups.answers_limit, proofs.GroupLemmas.GroupsSoFar}
use Rattle.conf_session.proofs.groups.run_groups.Given as goal

abbrev pub invariant-groups : goal.invariant-groups
invariant-groups g l = let d = g.D.Disk in record {
  off : l.fn.store.reopen ≡ false;
  sound : l.store.reopen ≡ false;
  input : IsSound l.input;
  so_far : GroupsSoFar d.model (g.S.AnswerSink.handings l.fn.sink) (g.S.AnswerSink.handings l.sink) (g.R.Read.remaining l.fn.reader)
      (g.R.Read.remaining l.reader)
      (g.S.AnswerSink.taken l.fn.sink) (g.S.AnswerSink.taken l.sink)
      l.fn.grouping l.fn.store l.store (ahead l.input) l.answers (bytes_read l.input);
  no_last : l.answers.last ≡ None;
  limit : l.answers.limit ≡ answers_limit l.fn.grouping;
  none : unwritten_bytes l.answers ≡ [];
  room : HasRoomFor l.answers (length (ahead l.input)) (bytes_read l.input);
  risen : d.model.failure_count l.fn.store.disk ≤ d.model.failure_count l.store.disk;
}

abbrev pub decreases-groups : goal.decreases-groups
decreases-groups g l = (session_limit - bytes_read l.input) + length (ahead l.input)
