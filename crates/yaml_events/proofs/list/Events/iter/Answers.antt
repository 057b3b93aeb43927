use Rattle.std.proofs.Common.{length, ap, arith}
use Rattle.yaml_events.proofs.PartLemmas.{events-length}
use Rattle.yaml_events.proofs.list.Events.iter.Goals as goal

pub returns-clause-count : goal.returns-clause-count
returns-clause-count c =
    let parts = c.self.inside in
    let long = events-length parts.empty parts.kinds.items parts.borrowed.items parts.omitted.items parts.others.items in
    omega (arith, ap length c.self.view_is, long, parts.kinds.ok.0, parts.kinds.ok.1, parts.kinds.small)
