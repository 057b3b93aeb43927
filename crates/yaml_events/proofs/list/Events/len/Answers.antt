use Rattle.yaml_events.proofs.PartLemmas.{events-length}
use Rattle.yaml_events.proofs.list.Events.len.Goals as goal

pub returns : goal.returns
returns c =
    let parts = c.self.inside in
    rw (← c.self.view_is, events-length parts.empty parts.kinds.items parts.borrowed.items parts.omitted.items parts.others.items) cc
