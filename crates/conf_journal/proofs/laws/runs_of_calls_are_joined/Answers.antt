use Rattle.conf_journal.proofs.{Prelude.{IsImage, LeavesOnly-joined}, Joins.{old-joined, other-joined}}
use Rattle.conf_journal.proofs.laws.runs_of_calls_are_joined.Goals as goal

pub returns-clause-images : goal.returns-clause-images
returns-clause-images g c h old between new folder first second =
    let d = g.D.Disk in
    LeavesOnly-joined d.model old between new (IsImage folder) (IsImage folder) (IsImage folder) first second
    (λ image is. is) (λ image is. is)

pub returns-clause-old_store : goal.returns-clause-old_store
returns-clause-old_store g c h old between new first second =
    let d = g.D.Disk in
    old-joined d.model (λ disk t image le is. g.met.D.Disk.counts_now disk t image h le is) old between new first second

pub returns-clause-other_store : goal.returns-clause-other_store
returns-clause-other_store g c h old between new other first second =
    let d = g.D.Disk in
    other-joined d.model (λ disk t image le is. g.met.D.Disk.counts_now disk t image h le is) old between new first other second
