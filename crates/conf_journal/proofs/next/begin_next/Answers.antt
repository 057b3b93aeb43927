use Rattle.std.proofs.Common.{[], ◌∷◌}
use Rattle.conf_journal.proofs.{Prelude.{CreateNext, RemoveNext}, Runs.{run-call, run-then, run-grown}, Stores.staging-run}
use Rattle.conf_journal.proofs.next.begin_next.Goals as goal

pub returns-in_err-remove_next-clause-any_moment : goal.returns-in_err-remove_next-clause-any_moment
returns-in_err-remove_next-clause-any_moment g c h =
    run-grown g.D.Disk tt (run-call g.D.Disk g.met.D.Disk.only_now h (CreateNext ∷ []) c.remove_next.ensures.goes)

pub returns-clause-any_moment : goal.returns-clause-any_moment
returns-clause-any_moment g c h =
    let d = g.D.Disk in
    let only = g.met.D.Disk.only_now in
    run-grown d tt (run-then d (c.in_ok-remove_next.ensures.goes.change h)
    (run-call d only h [] c.remove_next.ensures.goes) (run-call d only h [] c.create_next.ensures.goes))

pub returns-in_err-remove_next-clause-store : goal.returns-in_err-remove_next-clause-store
returns-in_err-remove_next-clause-store g c h =
    staging-run g.D.Disk (RemoveNext ∷ CreateNext ∷ []) tt tt (g.met.D.Disk.whole c.args.disk.now h)
    (returns-in_err-remove_next-clause-any_moment g c h)

pub returns-clause-store : goal.returns-clause-store
returns-clause-store g c h =
    staging-run g.D.Disk (RemoveNext ∷ CreateNext ∷ []) tt tt (g.met.D.Disk.whole c.args.disk.now h) (returns-clause-any_moment g c h)
