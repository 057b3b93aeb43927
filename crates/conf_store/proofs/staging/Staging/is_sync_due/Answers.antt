use Rattle.std.proofs.Common.{◌%◌, ◌==◌, ap, sym}
use Rattle.conf_store.proofs.StageLemmas.{view-due}
use Rattle.conf_store.proofs.staging.Staging.is_sync_due.Goals as goal

pub returns : goal.returns
returns c s staged e =
    let self = c.args.self.now in
    ap (λ n. n % 1048576 == 0) (sym (view-due self.running self.written _ staged e))
