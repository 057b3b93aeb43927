-- Nothing is done, or all that waits is flushed.
use Rattle.std.{proofs.Common.{refl, sym, subst}, specs.Prelude.Ok}
use Rattle.conf_session.specs.{Gathering.Starts, declared.groups.Grouping.Grouping}
use Rattle.conf_session.proofs.groups.start.Goals as goal

pub returns-in-Each-clause-starts : goal.returns-in-Each-clause-starts
returns-in-Each-clause-starts g c =
    subst (λ (k : Grouping). Starts g.D.Disk.model k c.args.store.now c.args.store.now (Ok tt)) (sym c.in-Each.is) (refl, refl)

pub returns-in-Read-clause-starts : goal.returns-in-Read-clause-starts
returns-in-Read-clause-starts g c =
    subst (λ (k : Grouping). Starts g.D.Disk.model k c.args.store.now c.flush_all.new.store c.flush_all.result) (sym c.in-Read.is)
    c.flush_all.ensures.flushes
