-- What is known of the calls of a replacing gives what a world keeps of its files.
use Rattle.conf_runs.proofs.CallLemmas.{keeps-files}
use Rattle.conf_runs.proofs.laws.calls_keep_files.Goals as goal

pub returns : goal.returns
returns g c honest by =
    keeps-files g.A.World.model g.C.FileCalls.model g.A.Files.files honest
    (λ s m held. g.met.C.FileCalls.only_now s m honest held) by
