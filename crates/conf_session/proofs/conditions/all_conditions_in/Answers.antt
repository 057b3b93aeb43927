use Rattle.std.proofs.Common.{option_map, length, ap, sym, subst, ◌∙◌, arith}
use Rattle.conf_session.proofs.{Prelude.{into_iter_items, elements_of, AreKeptElements, condition_of}, PartLemmas.{FoundSoFar, one-found}}
use Rattle.conf_session.{proofs.PartLemmas.all-found, specs.SaidConditions.condition_in}
use Rattle.conf_session.proofs.conditions.all_conditions_in.Goals as goal

pub condition_in-requires : goal.condition_in-requires
condition_in-requires c = (subst (λ ts. AreKeptElements (elements_of ts)) c.in-Some.ensures.steps.0 c.loop-element.invariant.0.kept).0

pub loop-element-preserved : goal.loop-element-preserved
loop-element-preserved c =
    let gone = c.in-Some.ensures.steps.1 in
    let one = ap length c.in-Some.ensures.steps.0 in
    let was = c.loop-element.invariant.1 in (
      one-found condition_of condition_in c.args.elements.items c.loop-element.conditions.items c.in-Some.element
          (into_iter_items c.next.new.self) c.in-Some-2.condition
          (ap (option_map condition_of) (sym c.in-Some-2.is) ∙ c.in_ok-condition.ensures)
          (subst (FoundSoFar condition_of condition_in c.args.elements.items c.loop-element.conditions.items)
          c.in-Some.ensures.steps.0 c.loop-element.invariant.0)
          c.push.new.self.items c.in_ok-push.ensures.items,
      omega arith,
    )

pub returns : goal.returns
returns c =
    all-found condition_of condition_in c.args.elements.items c.loop-element.conditions.items
    (into_iter_items c.loop-element.element-iterator)
    (c.loop-element.invariant.1 ∙ c.in-None.ensures.steps.0) c.loop-element.invariant.0
