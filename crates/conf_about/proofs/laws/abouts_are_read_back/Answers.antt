use Rattle.conf_about.proofs.ReadLemmas.{abouts-read}
use Rattle.conf_about.proofs.laws.abouts_are_read_back.Goals as goal

pub returns : goal.returns
returns c = abouts-read c.style_reads.ensures.alone c.bytes_give_one.ensures
