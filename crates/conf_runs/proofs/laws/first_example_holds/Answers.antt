-- README's first example is one of the runs that see what was written.
use Rattle.std.specs.Str.{chars}
use Rattle.{yaml_config.specs.Limits.config_limits, conf_runs.proofs.ExampleRuns.first-example}
use Rattle.conf_runs.proofs.laws.first_example_holds.Goals as goal

pub returns : goal.returns
returns g c honest keeps =
    first-example g.A.World.model g.A.Disk.Disk.model g.A.File.Read.remaining honest g.A.Folders.leaves c.unambiguous.ensures keeps
    (λ bytes one other first second.
    c.one_tree.ensures (chars bytes) config_limits config_limits one other first.gives second.gives)
    c.bytes_mean_one_state.ensures.one c.reading_is_an_image.ensures
    (λ d t image le is. g.met.A.Disk.Disk.counts_now d t image honest le is) c.documents_are_read.ensures.bases
    c.documents_close.ensures.bases c.documents_are_read.ensures.fit (c.call_holds.ensures honest)
    c.bytes_mean_one_state.ensures.refused c.documents_are_read.ensures.one_record
