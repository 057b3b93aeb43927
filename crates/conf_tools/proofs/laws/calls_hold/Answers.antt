-- The laws of disks and of meanings give what calls keep.
use Rattle.conf_tools.proofs.CallLemmas.{calls-hold}
use Rattle.conf_tools.proofs.laws.calls_hold.Goals as goal

pub returns : goal.returns
returns g c h =
    let d = g.D.Disk in
    calls-hold d.model c.bytes_mean_one_state.ensures.one c.reading_is_an_image.ensures
    (λ disk t image le is. g.met.D.Disk.counts_now disk t image h le is)
