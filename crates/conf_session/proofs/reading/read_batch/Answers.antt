use Rattle.std.proofs.Common.{inl, inr, map}
use Rattle.conf_session.proofs.{Prelude.edit_of, ConditionalLemmas.answered-read, RefusalLemmas.read-memory}
use Rattle.conf_session.proofs.reading.read_batch.Goals as goal

pub returns-in-Ok : goal.returns-in-Ok
returns-in-Ok c = record { asked = λ request is. inl (map edit_of c.in-Ok.edits.items, c.in-Ok.ensures.ok, is); memory = tt }

pub returns-in-Err : goal.returns-in-Err
returns-in-Err c = record {
  asked = λ request is. inr (c.in-Err.fault, c.in-Err.ensures.refused (answered-read c.in-Err.fault is.1), is.0);
  memory = read-memory c.in-Err.fault;
}
