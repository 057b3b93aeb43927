use Rattle.std.proofs.Common.{length, ap, arith}
use Rattle.yaml_events.proofs.PartLemmas.{events-length, events-take}
use Rattle.yaml_events.proofs.list.Events.truncate.Goals as goal

pub returns : goal.returns
returns c =
    let parts = c.self.inside in
    let long = events-length parts.empty parts.kinds.items parts.borrowed.items parts.omitted.items parts.others.items in
    rw (
      c.truncate-2.ensures.items,
      c.truncate-3.ensures.items,
      c.truncate-4.ensures.items,
      c.value_counts-counts.ensures.borrowed,
      c.value_counts-counts.ensures.omitted,
      c.value_counts-counts.ensures.others,
      c.as_slice.ensures.value,
      c.truncate.ensures.items,
      ← c.self.view_is,
    )
    (events-take parts.empty c.args.len parts.kinds.items parts.borrowed.items parts.omitted.items parts.others.items c.self.invariant.0
    (omega (arith, c.requires, ap length c.self.view_is, long)))
