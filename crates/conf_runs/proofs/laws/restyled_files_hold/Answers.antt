-- What a world keeps of its files gives what runs of `format -i` keep.
use Rattle.std.{proofs.Common.{sym, subst, ◌∙◌}, specs.Prelude.map}
use Rattle.conf_tools.{specs.{declared.program.Status.{Status, TheVariants.Done}, Performs.Restyles}, proofs.EndingLemmas.told-status}
use Rattle.conf_runs.{specs.Restyled.{FilesHold, ReadBy, restyled_by}, proofs.FileLemmas.files-hold}
use Rattle.conf_runs.proofs.laws.restyled_files_hold.Goals as goal

pub returns : goal.returns
returns g c keeps comments named reporting old new status does =
    let words = map (λ file. file.now) named.items in
    let did = restyled_by g.A.World.model g.A.Disk.Disk.model g.A.File.Read.remaining g.A.Files.files does in
    let same = does.is ∙ told-status (Restyles g.A.World.model g.A.File.Read.remaining comments words old new) does.ending does.does in
    subst (λ (s : Status). FilesHold g.A.Files.files comments words old.world new.world s
    (λ path. ReadBy g.A.World.model g.A.File.Read.remaining g.A.Files.files comments path words Done old.world new.world
    did.0 did.1.does)) (sym same)
    (files-hold g.A.World.model g.A.File.Read.remaining g.A.Files.files keeps comments words old.world new.world did.0 did.1.does)
