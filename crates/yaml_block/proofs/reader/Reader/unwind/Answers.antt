use Rattle.std.{proofs.Common.{◌≡◌, refl, sym, ap, subst, arith, length}, specs.Prelude.{[], Option, MatchOption}}
use Rattle.yaml_block.proofs.{Prelude.append-nil, Stacks.grown_grown, UnwindSteps.{no_items, still_first, unwinds_on, unwinds_more}}
use Rattle.yaml_block.{proofs.UnwindSteps.unwinds_all, specs.declared.frame.Next.Next}
use Rattle.yaml_block.proofs.reader.Reader.unwind.Goals as goal

pub collections-init : goal.collections-init
collections-init c = record {
  part = still_first c.args.text.now c.args.after.line.start c.args.self.now;
  grown = record { more = []; is = sym (append-nil c.args.self.now.events) };
}

pub returns-in_err-next-clause-grown : goal.returns-in_err-next-clause-grown
returns-in_err-next-clause-grown c = grown_grown c.args.self.now.events c.collections.self.events
    c.after_part.new.self.events c.collections.invariant.grown c.in_err-next.ensures.grown

pub returns-in-Some-2-clause-turns : goal.returns-in-Some-2-clause-turns
returns-in-Some-2-clause-turns c =
    unwinds_on c.args.text.now c.args.after c.args.self.now c.collections.self
    (record c.collections.self { collections = c.pop.new.self }) c.after_part.new.self c.in-Some.collection
    c.in_ok-next.field-0 c.in-Some-2.next c.collections.invariant.part c.in-Some.ensures.items refl refl
    c.in_ok-next.ensures.turn.turns c.in-Some-2.is

pub returns-in-Some-2-clause-grown : goal.returns-in-Some-2-clause-grown
returns-in-Some-2-clause-grown c = grown_grown c.args.self.now.events c.collections.self.events
    c.after_part.new.self.events c.collections.invariant.grown c.in_ok-next.ensures.grown

pub collections-smaller : goal.collections-smaller
collections-smaller c =
    let e : c.after_part.new.self.collections.items ≡ c.pop.new.self.items =
    subst (λ (n : Option Next). MatchOption n (c.after_part.new.self.collections.items ≡ c.pop.new.self.items)
    (λ _. Unit {0})) c.in_default-2.is c.in_ok-next.ensures.turn.ended in
    omega (arith, ap length e, c.in-Some.ensures.cases, c.pop.new.self.ok.0, c.after_part.new.self.collections.ok.0)

pub collections-preserved : goal.collections-preserved
collections-preserved c = record {
  part = unwinds_more c.args.text.now c.args.after c.args.self.now c.collections.self
      (record c.collections.self { collections = c.pop.new.self }) c.after_part.new.self c.in-Some.collection
      c.in_ok-next.field-0 c.collections.invariant.part c.in-Some.ensures.items refl refl
      c.in_ok-next.ensures.turn.turns
      c.in_default-2.is;
  grown = grown_grown c.args.self.now.events c.collections.self.events c.after_part.new.self.events
      c.collections.invariant.grown c.in_ok-next.ensures.grown;
}

pub returns-clause-turns : goal.returns-clause-turns
returns-clause-turns c =
    unwinds_all c.args.text.now c.args.after.line.start c.args.self.now c.collections.self
    (record c.collections.self { collections = c.pop.new.self }) c.collections.invariant.part
    (omega (arith, c.in_default.ensures.cases.0, c.collections.self.collections.ok.0))
    (no_items c.pop.new.self.items (omega (arith, c.in_default.ensures.cases.1, c.pop.new.self.ok.0))) refl refl

pub returns-clause-grown : goal.returns-clause-grown
returns-clause-grown c = c.collections.invariant.grown
