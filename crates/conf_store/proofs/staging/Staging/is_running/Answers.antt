use Rattle.conf_store.proofs.StageLemmas.{view-runs}
use Rattle.conf_store.proofs.staging.Staging.is_running.Goals as goal

pub returns : goal.returns
returns c s = view-runs c.args.self.now.running c.args.self.now.written _
