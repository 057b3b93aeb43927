use Rattle.std.proofs.Common.{option_map, length, ap, sym, subst, ◌∙◌, arith}
use Rattle.conf_session.proofs.{Prelude.{into_iter_items, elements_of, AreKeptElements}, PartLemmas.{FoundSoFar, one-found, all-found}}
use Rattle.conf_session.specs.Said.{part_of, part_seen}
use Rattle.conf_session.proofs.parts.parts_of.Goals as goal

pub part_of-requires : goal.part_of-requires
part_of-requires c = (subst (λ ts. AreKeptElements (elements_of ts)) c.in-Some.ensures.steps.0 c.loop-element.invariant.0.kept).0

pub loop-element-preserved : goal.loop-element-preserved
loop-element-preserved c =
    let gone = c.in-Some.ensures.steps.1 in
    let one = ap length c.in-Some.ensures.steps.0 in
    let was = c.loop-element.invariant.1 in (
      one-found part_seen part_of c.args.elements.items c.loop-element.parts.items c.in-Some.element
          (into_iter_items c.next.new.self) c.in-Some-2.part
          (ap (option_map part_seen) (sym c.in-Some-2.is) ∙ c.in_ok-part.ensures)
          (subst (FoundSoFar part_seen part_of c.args.elements.items c.loop-element.parts.items)
          c.in-Some.ensures.steps.0 c.loop-element.invariant.0)
          c.push.new.self.items c.in_ok-push.ensures.items,
      omega arith,
    )

pub returns : goal.returns
returns c =
    all-found part_seen part_of c.args.elements.items c.loop-element.parts.items (into_iter_items c.loop-element.element-iterator)
    (c.loop-element.invariant.1 ∙ c.in-None.ensures.steps.0) c.loop-element.invariant.0
