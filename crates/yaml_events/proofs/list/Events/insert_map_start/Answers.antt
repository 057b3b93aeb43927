use Rattle.std.proofs.Common.{length, ap, arith}
use Rattle.yaml_events.proofs.PartLemmas.{events-length, events-insert}
use Rattle.yaml_events.proofs.list.Events.insert_map_start.Goals as goal

pub insert-requires : goal.insert-requires
insert-requires c =
    let parts = c.self.inside in
    let long = events-length parts.empty parts.kinds.items parts.borrowed.items parts.omitted.items parts.others.items in
    omega (arith, c.requires, ap length c.self.view_is, long, parts.kinds.ok.0)

pub returns-clause-ok : goal.returns-clause-ok
returns-clause-ok c =
    let parts = c.self.inside in
    let long = events-length parts.empty parts.kinds.items parts.borrowed.items parts.omitted.items parts.others.items in
    rw (c.in_ok-insert.ensures.items, ← c.self.view_is)
    (events-insert parts.empty c.args.at parts.kinds.items parts.borrowed.items parts.omitted.items parts.others.items c.self.invariant.0
    (omega (arith, c.requires, ap length c.self.view_is, long)))
