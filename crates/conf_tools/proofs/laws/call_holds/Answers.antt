-- The laws of disks and of meanings give what a call keeps.
use Rattle.conf_tools.proofs.CallLemmas.{call-holds}
use Rattle.conf_tools.proofs.laws.call_holds.Goals as goal

pub returns : goal.returns
returns g c h =
    let d = g.D.Disk in
    call-holds d.model c.bytes_mean_one_state.ensures.one c.reading_is_an_image.ensures
    (λ disk t image le is. g.met.D.Disk.counts_now disk t image h le is)
