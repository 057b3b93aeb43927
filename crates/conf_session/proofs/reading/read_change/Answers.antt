use Rattle.std.proofs.Common.{sym, ap, subst}
use Rattle.conf_session.specs.{Said.change_seen, Requests.MeansRequest, ReadChanges.ReadsAsked}
use Rattle.conf_session.proofs.reading.read_change.Goals as goal

pub returns-in-Single : goal.returns-in-Single
returns-in-Single c = subst (λ s. ReadsAsked (MeansRequest s) c.read_single.result)
    (sym (ap change_seen c.in-Single.is)) c.read_single.ensures

pub returns-in-Batch : goal.returns-in-Batch
returns-in-Batch c = subst (λ s. ReadsAsked (MeansRequest s) c.read_batch.result) (sym (ap change_seen c.in-Batch.is)) c.read_batch.ensures
