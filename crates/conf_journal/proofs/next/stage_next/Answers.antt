use Rattle.std.proofs.Common.{[], ◌∷◌, ◌∙◌, ap}
use Rattle.conf_journal.proofs.{Prelude.{CreateNext, Append, Sync, RemoveNext, Image, Next}, Reading.OnOk-always, Fails.fails-then}
use Rattle.conf_journal.{proofs.{Stores.{staging-run, file_there}, Runs.{run-known, run-then, run-grown}}, specs.Store.file_with_bytes}
use Rattle.conf_journal.proofs.next.stage_next.Goals as goal

pub returns-in_err-begin_next-clause-any_moment : goal.returns-in_err-begin_next-clause-any_moment
returns-in_err-begin_next-clause-any_moment g c h =
    run-grown g.D.Disk tt (run-known g.D.Disk (RemoveNext ∷ CreateNext ∷ []) (Append Next c.args.bytes.now ∷ []) tt
    (c.begin_next.ensures.any_moment h))

pub returns-in_err-append_next-clause-any_moment : goal.returns-in_err-append_next-clause-any_moment
returns-in_err-append_next-clause-any_moment g c h =
    run-grown g.D.Disk tt (run-then g.D.Disk (c.in_ok-begin_next.ensures.folder h)
    (run-known g.D.Disk (RemoveNext ∷ CreateNext ∷ []) [] tt (c.begin_next.ensures.any_moment h))
    (run-known g.D.Disk (Append Next c.args.bytes.now ∷ []) [] tt (c.append_next.ensures.any_moment h)))

pub returns-clause-any_moment : goal.returns-clause-any_moment
returns-clause-any_moment g c h =
    run-grown g.D.Disk tt (run-then g.D.Disk (c.in_ok-begin_next.ensures.folder h)
    (run-known g.D.Disk (RemoveNext ∷ CreateNext ∷ []) [] tt (c.begin_next.ensures.any_moment h))
    (run-then g.D.Disk (c.in_ok-append_next.ensures.folder h)
    (run-known g.D.Disk (Append Next c.args.bytes.now ∷ []) [] tt (c.append_next.ensures.any_moment h))
    (run-known g.D.Disk (Sync Next ∷ []) [] tt (c.sync_next.ensures.any_moment h))))

pub returns-in_err-append_next-clause-store : goal.returns-in_err-append_next-clause-store
returns-in_err-append_next-clause-store g c h =
    staging-run g.D.Disk (RemoveNext ∷ CreateNext ∷ Append Next c.args.bytes.now ∷ []) tt tt (g.met.D.Disk.whole c.args.disk.now h)
    (returns-in_err-append_next-clause-any_moment g c h)

pub returns-clause-store : goal.returns-clause-store
returns-clause-store g c h =
    staging-run g.D.Disk (RemoveNext ∷ CreateNext ∷ Append Next c.args.bytes.now ∷ Sync Next ∷ []) tt tt
    (g.met.D.Disk.whole c.args.disk.now h)
    (returns-clause-any_moment g c h)

pub returns-clause-reads : goal.returns-clause-reads
returns-clause-reads g c h =
    let bytes = c.args.bytes.now in
    OnOk-always c.sync_next.result (c.sync_next.ensures.reads h
    ∙ c.in_ok-append_next.ensures.reads h
    ∙ ap (λ (image : Image). record image { next = file_with_bytes image.next bytes }) (c.in_ok-begin_next.ensures.reads h))

pub returns-clause-synced : goal.returns-clause-synced
returns-clause-synced g c h =
    let all = c.append_next.new.disk in
    let folder = g.D.Disk.model.folder all in
    let bytes = c.args.bytes.now in
    let there = ap (λ (image : Image). image.next) (c.in_ok-append_next.ensures.reads h)
    ∙ ap (λ (image : Image). file_with_bytes image.next bytes) (c.in_ok-begin_next.ensures.reads h) in
    c.sync_next.ensures.synced h (file_there folder.files folder.now.next bytes there)

pub returns-clause-fails : goal.returns-clause-fails
returns-clause-fails g c = fails-then c.in_ok-begin_next.ensures.fails
    (fails-then c.in_ok-append_next.ensures.fails c.sync_next.ensures.fails)

pub returns-clause-left_alone : goal.returns-clause-left_alone
returns-clause-left_alone g c h = ap (λ (image : Image). image.store) (c.sync_next.ensures.reads h)
    ∙ c.append_next.ensures.left_alone h ∙ c.begin_next.ensures.left_alone h
