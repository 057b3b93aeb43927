use Rattle.conf_about.proofs.FaultLemmas.{None-about, about-None}
use Rattle.conf_about.proofs.laws.abouts_have_no_fault.Goals as goal

pub returns : goal.returns
returns c = λ t is. (None-about t is, about-None t)
