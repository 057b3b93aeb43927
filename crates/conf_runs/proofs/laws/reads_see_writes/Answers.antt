-- What is at the place after the runs is what is read there.
use Rattle.std.specs.Str.{chars}
use Rattle.{yaml_config.specs.Limits.config_limits, conf_runs.proofs.WriteLemmas.{others-stay, reads-see-writes}}
use Rattle.conf_runs.proofs.laws.reads_see_writes.Goals as goal

pub returns-clause-others : goal.returns-clause-others
returns-clause-others g c honest path name pointer =
    others-stay g.A.World.model g.A.Disk.Disk.model g.A.File.Read.remaining honest g.A.Folders.leaves path name pointer

pub returns-clause-sees : goal.returns-clause-sees
returns-clause-sees g c honest path name pointer keeps =
    reads-see-writes g.A.World.model g.A.Disk.Disk.model g.A.File.Read.remaining honest g.A.Folders.leaves path name pointer keeps
    (λ bytes one other first second.
    c.one_tree.ensures (chars bytes) config_limits config_limits one other first.gives second.gives)
    c.bytes_mean_one_state.ensures.one c.reading_is_an_image.ensures
    (λ d t image le is. g.met.A.Disk.Disk.counts_now d t image honest le is) c.documents_are_read.ensures.bases
    c.documents_close.ensures.bases c.documents_are_read.ensures.fit (c.call_holds.ensures honest)
    c.bytes_mean_one_state.ensures.refused c.documents_are_read.ensures.one_record
