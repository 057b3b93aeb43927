use Rattle.std.{proofs.Common.{◌∷◌, ap, ◌∙◌}, specs.Slice.Iter.iter_rest}
use Rattle.yaml_events.proofs.PartLemmas.{borrowed-lacks, omitted-lacks, other-lacks}
use Rattle.yaml_events.proofs.iter.EventIterIterator.next.Goals as goal

pub returns-in_default-next-clause-steps : goal.returns-in_default-next-clause-steps
returns-in_default-next-clause-steps c =
    let parts = c.self.inside in
    let left = iter_rest c.next.new.self in
    absurd (borrowed-lacks c.in-Borrowed.style left (iter_rest parts.kinds) (iter_rest parts.borrowed)
    (iter_rest parts.omitted) (iter_rest parts.others) c.self.invariant
    (c.in-Some.ensures.steps ∙ ap (λ k. k ∷ left) c.in-Borrowed.is) c.in_default-next.ensures.steps.0)

pub returns-in_default-next-2-clause-steps : goal.returns-in_default-next-2-clause-steps
returns-in_default-next-2-clause-steps c =
    let parts = c.self.inside in
    let left = iter_rest c.next.new.self in
    absurd (omitted-lacks left (iter_rest parts.kinds) (iter_rest parts.borrowed)
    (iter_rest parts.omitted) (iter_rest parts.others) c.self.invariant
    (c.in-Some.ensures.steps ∙ ap (λ k. k ∷ left) c.in-Omitted.is) c.in_default-next-2.ensures.steps.0)

pub returns-in_default-next-3-clause-steps : goal.returns-in_default-next-3-clause-steps
returns-in_default-next-3-clause-steps c =
    let parts = c.self.inside in
    let left = iter_rest c.next.new.self in
    absurd (other-lacks c.in-Other.style left (iter_rest parts.kinds) (iter_rest parts.borrowed)
    (iter_rest parts.omitted) (iter_rest parts.others) c.self.invariant
    (c.in-Some.ensures.steps ∙ ap (λ k. k ∷ left) c.in-Other.is) c.in_default-next-3.ensures.steps.0)
