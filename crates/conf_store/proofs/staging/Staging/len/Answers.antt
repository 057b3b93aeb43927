use Rattle.conf_store.proofs.StageLemmas.{view-length, view-zero}
use Rattle.conf_store.proofs.staging.Staging.len.Goals as goal

pub returns-then-self : goal.returns-then-self
returns-then-self c s ready =
    let self = c.args.self.now in
    view-length self.running self.written self.total _ c.if-self.true (ready c.if-self.true).whole

pub returns-else-self : goal.returns-else-self
returns-else-self c s ready =
    let self = c.args.self.now in
    view-zero self.running self.written _ c.if-self.false
