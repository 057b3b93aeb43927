use Rattle.std.{proofs.Common.{◌∷◌, length, ap, ◌∙◌}, specs.Vec.Iter.into_iter_items}
use Rattle.yaml_events.proofs.PartLemmas.{borrowed-lacks, omitted-lacks}
use Rattle.yaml_events.proofs.iter.EventIntoIterIterator.next.Goals as goal

pub returns-in_default-next-clause-steps : goal.returns-in_default-next-clause-steps
returns-in_default-next-clause-steps c =
    let parts = c.self.inside in
    let left = c.next.new.self in
    absurd (borrowed-lacks c.in-Borrowed.style left parts.kinds parts.borrowed parts.omitted (into_iter_items parts.others)
    c.self.invariant (c.in-Some.ensures ∙ ap (λ k. k ∷ left) c.in-Borrowed.is) (ap length c.in_default-next.ensures.0))

pub returns-in_default-next-2-clause-steps : goal.returns-in_default-next-2-clause-steps
returns-in_default-next-2-clause-steps c =
    let parts = c.self.inside in
    let left = c.next.new.self in
    absurd (omitted-lacks left parts.kinds parts.borrowed parts.omitted (into_iter_items parts.others)
    c.self.invariant (c.in-Some.ensures ∙ ap (λ k. k ∷ left) c.in-Omitted.is) (ap length c.in_default-next-2.ensures.0))
