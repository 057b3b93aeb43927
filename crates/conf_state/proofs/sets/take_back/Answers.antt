use Rattle.std.proofs.Common.{sym, subst}
use Rattle.conf_state.{specs.{Kept.entries_of, Trails.Trail}, proofs.SetLemmas.trail-pop}
use Rattle.conf_state.proofs.sets.take_back.Goals as goal

pub take_one_back-requires-clause-made : goal.take_one_back-requires-clause-made
take_one_back-requires-clause-made c =
    let es = entries_of c.loop-last.configs in
    let start = c.requires.trail.0 in
    let p = trail-pop start c.pop.new.self.items es c.in-Some.last
    (subst (λ ms. Trail start ms es) c.in-Some.ensures.items (c.loop-last.invariant.1 start c.requires.trail.1)) in
    (p.0, p.2)

pub loop-last-preserved : goal.loop-last-preserved
loop-last-preserved c = (
  c.take_one_back.ensures.plain,
  λ start trail.
      let es = entries_of c.loop-last.configs in
      let p = trail-pop start c.pop.new.self.items es c.in-Some.last
      (subst (λ ms. Trail start ms es) c.in-Some.ensures.items (c.loop-last.invariant.1 start trail)) in
      subst (Trail start c.pop.new.self.items) (sym (c.take_one_back.ensures.same p.0 p.2)) p.1,
)
