use Rattle.std.proofs.Common.{◌⊎◌, sym, subst}
use Rattle.conf_store.{proofs.{Prelude.{LeavesOnly-joined, command_of}, HeldLemmas.prefix-with}, specs.{Meaning.ImageMeans, Calls.renews}}
use Rattle.conf_store.specs.{Changing.{flushed_with, waiting_with}, Durable.MeansPrefix}
use Rattle.conf_store.proofs.store.Store.apply.Goals as goal

pub returns-in-Ok-flush-clause-any_moment : goal.returns-in-Ok-flush-clause-any_moment
returns-in-Ok-flush-clause-any_moment g c h off flushed since has =
    let d = g.D.Disk in
    let old = c.args.self.now in
    let mid = c.submit.new.self in
    let new = c.flush.new.self in
    let command = command_of c.args.command in
    let renewed = renews old.format command in
    let waits = c.in-Ok.ensures.waits h off flushed since has in
    let same = c.flush.ensures.same.state in
    LeavesOnly-joined d.model old.disk mid.disk new.disk
    (λ image. MeansPrefix flushed since image ⊎ ImageMeans image mid.state)
    (MeansPrefix (flushed_with renewed flushed mid.state) (waiting_with renewed since command))
    (λ image. MeansPrefix flushed since image ⊎ ImageMeans image new.state) (c.submit.ensures.any_moment h off flushed since has)
    (c.flush.ensures.any_moment h c.in-Ok.ensures.ok.0.reopen (flushed_with renewed flushed mid.state)
    (waiting_with renewed since command) waits)
    (λ image is. subst (λ s. MeansPrefix flushed since image ⊎ ImageMeans image s) (sym same) is)
    (λ image is. subst (λ s. MeansPrefix flushed since image ⊎ ImageMeans image s) (sym same)
    (prefix-with renewed image.several flushed mid.state since command image.store waits.journal.leads is))

pub returns-in-Err-flush-clause-any_moment : goal.returns-in-Err-flush-clause-any_moment
returns-in-Err-flush-clause-any_moment g c h off flushed since has =
    let d = g.D.Disk in
    let old = c.args.self.now in
    let mid = c.submit.new.self in
    let new = c.flush.new.self in
    let command = command_of c.args.command in
    let renewed = renews old.format command in
    let waits = c.in-Ok.ensures.waits h off flushed since has in
    let same = c.flush.ensures.same.state in
    LeavesOnly-joined d.model old.disk mid.disk new.disk
    (λ image. MeansPrefix flushed since image ⊎ ImageMeans image mid.state)
    (MeansPrefix (flushed_with renewed flushed mid.state) (waiting_with renewed since command))
    (λ image. MeansPrefix flushed since image ⊎ ImageMeans image new.state) (c.submit.ensures.any_moment h off flushed since has)
    (c.flush.ensures.any_moment h c.in-Ok.ensures.ok.0.reopen (flushed_with renewed flushed mid.state)
    (waiting_with renewed since command) waits)
    (λ image is. subst (λ s. MeansPrefix flushed since image ⊎ ImageMeans image s) (sym same) is)
    (λ image is. subst (λ s. MeansPrefix flushed since image ⊎ ImageMeans image s) (sym same)
    (prefix-with renewed image.several flushed mid.state since command image.store waits.journal.leads is))
