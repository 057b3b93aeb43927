-- What one call keeps gives what runs keep.
use Rattle.conf_runs.proofs.RunLemmas.{runs-hold}
use Rattle.conf_runs.proofs.laws.runs_hold.Goals as goal

pub returns : goal.returns
returns g c honest path keeps first last events =
    runs-hold g.A.World.model g.A.Disk.Disk.model g.A.File.Read.remaining honest g.A.Folders.leaves path keeps
    c.bytes_mean_one_state.ensures.one c.reading_is_an_image.ensures
    (λ d t image le is. g.met.A.Disk.Disk.counts_now d t image honest le is) c.documents_are_read.ensures.bases
    c.documents_close.ensures.bases
    c.documents_are_read.ensures.fit (c.call_holds.ensures honest) first last events
