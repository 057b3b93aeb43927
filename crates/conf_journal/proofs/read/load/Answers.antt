use Rattle.std.proofs.Common.{[], ◌∙◌, ap, rules}
use Rattle.conf_journal.proofs.{Prelude.{image_now, Store}, Fails.{counts-passed, counts-then}, Reading.sync-reads_same}
use Rattle.conf_journal.proofs.{Reading.sync_folder-reads_same, Runs.{run-call, run-read, run-then, run-grown}}
use Rattle.conf_journal.proofs.read.load.Goals as goal

pub returns-in_err-sync_folder-clause-any_moment : goal.returns-in_err-sync_folder-clause-any_moment
returns-in_err-sync_folder-clause-any_moment g c h =
    run-grown g.D.Disk tt (run-call g.D.Disk g.met.D.Disk.only_now h [] c.sync_folder.ensures.goes)

pub returns-in_err-sync-clause-any_moment : goal.returns-in_err-sync-clause-any_moment
returns-in_err-sync-clause-any_moment g c h =
    let d = g.D.Disk in
    let only = g.met.D.Disk.only_now in
    run-grown d tt (run-then d (c.in_ok-sync_folder.ensures.goes.change h)
    (run-call d only h [] c.sync_folder.ensures.goes) (run-call d only h [] c.sync.ensures.goes))

pub returns-clause-any_moment : goal.returns-clause-any_moment
returns-clause-any_moment g c h =
    let d = g.D.Disk in
    let only = g.met.D.Disk.only_now in
    run-grown d tt (run-then d (c.in_ok-sync_folder.ensures.goes.change h) (run-call d only h [] c.sync_folder.ensures.goes)
    (run-then d (c.in_ok-sync.ensures.goes.change h) (run-call d only h [] c.sync.ensures.goes)
    (run-read d only h (c.read.ensures.time h) (c.read.ensures.same h))))

pub returns-in_err-sync-clause-reads : goal.returns-in_err-sync-clause-reads
returns-in_err-sync-clause-reads g c h =
    sync-reads_same Store _ _ c.sync.result (c.sync.ensures.goes.change h)
    ∙ sync_folder-reads_same _ _ c.sync_folder.result (c.sync_folder.ensures.goes.change h)

pub returns-in_err-sync_folder-clause-failures : goal.returns-in_err-sync_folder-clause-failures
returns-in_err-sync_folder-clause-failures g c = counts-passed c.in_err-sync_folder.ensures.goes.failures (search rules)

pub returns-in_err-sync-clause-failures : goal.returns-in_err-sync-clause-failures
returns-in_err-sync-clause-failures g c = counts-then c.in_ok-sync_folder.ensures.goes.failures
    (counts-passed c.in_err-sync.ensures.goes.failures (search rules))

pub returns-clause-failures : goal.returns-clause-failures
returns-clause-failures g c = counts-then c.in_ok-sync_folder.ensures.goes.failures
    (counts-then c.in_ok-sync.ensures.goes.failures c.read.ensures.failures)

pub returns-clause-reads : goal.returns-clause-reads
returns-clause-reads g c h =
    ap image_now (c.read.ensures.same h)
    ∙ sync-reads_same Store _ _ c.sync.result (c.sync.ensures.goes.change h)
    ∙ sync_folder-reads_same _ _ c.sync_folder.result (c.sync_folder.ensures.goes.change h)

pub returns-in_err-sync-clause-spent : goal.returns-in_err-sync-clause-spent
returns-in_err-sync-clause-spent g c h at =
    c.sync.ensures.goes.spent h (c.in_ok-sync_folder.ensures.goes.failures.steady ∙ at) ∙ c.sync_folder.ensures.goes.spent h at

pub returns-clause-spent : goal.returns-clause-spent
returns-clause-spent g c h at =
    c.read.ensures.same h ∙ c.sync.ensures.goes.spent h (c.in_ok-sync_folder.ensures.goes.failures.steady ∙ at)
    ∙ c.sync_folder.ensures.goes.spent h at
