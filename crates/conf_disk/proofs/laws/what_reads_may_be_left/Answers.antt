use Rattle.conf_disk.{specs.Image.image_now, proofs.Stops.reading-image}
use Rattle.conf_disk.proofs.laws.what_reads_may_be_left.Goals as goal

pub returns : goal.returns
returns g c h t le =
    let disk = c.args._disk.now in
    g.met.D.Disk.counts_now disk t (image_now (g.D.Disk.model.folder disk)) h le (reading-image (g.D.Disk.model.folder disk))
