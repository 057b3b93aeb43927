use Rattle.std.{proofs.Common.{sym, ap, subst, arith, ℕ, ◌+◌, ◌-◌, ◌*◌, ◌<◌, ◌≤◌, length}, specs.Prelude.{Option, MatchOption}}
use Rattle.yaml_block.proofs.{Prelude.{err_from_is_err_and, rest, block_missing, line_starts, fault_passed}, EachNode.each_node}
use Rattle.yaml_block.proofs.{Stacks.grown_grown, NodeLoop.{prefix_leads, prefix_fails, part_leads, part_fails, pair_leads, pair_fails}}
use Rattle.yaml_block.{proofs.NodeLoop.{line_leads, line_ends}, specs.{Lines.is_shallow, declared.frame.Next.Next, States.BeforeNode}}
use Rattle.yaml_block.specs.States.{BeforePair, BeforePart, Fails, IsPlaced, Onward, steps_left, place_of}
use Rattle.yaml_block.specs.declared.frame.Next.TheVariants as next
use Rattle.yaml_block.proofs.reader.Reader.node.Goals as goal

pub returns-in_err-next-clause-missing : goal.returns-in_err-next-clause-missing
returns-in_err-next-clause-missing c =
    let text = c.args.text.now in
    let m = c.args.least in
    let shallow = is_shallow c.args.context in
    fault_passed c.from_residual.result c.in_err-next.field-0.0
    (Fails text (BeforeNode text m shallow c.args.at) c.args.self.now) _
    (prefix_fails text m c.args.at shallow c.args.self.now c.requires.none_open) c.in_err-next.ensures.none
    (err_from_is_err_and c.from_residual.result c.from_residual.ensures.1)

pub returns-in_err-next-clause-none : goal.returns-in_err-next-clause-none
returns-in_err-next-clause-none c =
    let text = c.args.text.now in
    let m = c.args.least in
    let shallow = is_shallow c.args.context in
    fault_passed c.from_residual.result c.in_err-next.field-0.0
    (Fails text (BeforeNode text m shallow c.args.at) c.args.self.now) _
    (λ f. block_missing m shallow (line_starts text c.args.at) (rest text c.args.at)
    (prefix_fails text m c.args.at shallow c.args.self.now c.requires.none_open f)) c.in_err-next.ensures.none
    (err_from_is_err_and c.from_residual.result c.from_residual.ensures.1)

pub parts-init : goal.parts-init
parts-init c =
    let text = c.args.text.now in
    record {
      goes_on = prefix_leads text c.args.least c.args.at (is_shallow c.args.context) c.args.self.now
          c.requires.none_open c.prefix.new.self c.in_ok-next.next c.in_ok-next.ensures.leads;
      above = (c.in_ok-next.ensures.onward).above;
      placed = (c.in_ok-next.ensures.onward).placed;
      grown = c.in_ok-next.ensures.grown;
      fits = c.in_ok-next.ensures.fits;
    }

pub after_sign-requires-clause-placed : goal.after_sign-requires-clause-placed
after_sign-requires-clause-placed c = subst (λ (n : Next). IsPlaced c.args.text.now n) c.in-After.is
    c.parts.invariant.placed

pub returns-in_err-next-in-After-clause-grown : goal.returns-in_err-next-in-After-clause-grown
returns-in_err-next-in-After-clause-grown c = grown_grown c.args.self.now.events c.parts.self.events
    c.after_sign.new.self.events c.parts.invariant.grown c.in_err-next-in-After.ensures.grown

pub returns-in_err-next-in-After-clause-missing : goal.returns-in_err-next-in-After-clause-missing
returns-in_err-next-in-After-clause-missing c =
    let text = c.args.text.now in
    fault_passed c.from_residual-in_err-next-in-After.result c.in_err-next-in-After.field-0.0
    (Fails text (BeforePart text c.in-After.sign c.in-After.indent c.in-After.at) c.parts.self) _
    (part_fails text c.args.least c.args.at (is_shallow c.args.context) c.args.self.now.events c.parts.self
    c.parts.next c.parts.invariant.goes_on c.in-After.sign c.in-After.indent c.in-After.at c.in-After.is)
    c.in_err-next-in-After.ensures.none (err_from_is_err_and c.from_residual-in_err-next-in-After.result
    c.from_residual-in_err-next-in-After.ensures.1)

pub returns-in_err-next-in-After-clause-none : goal.returns-in_err-next-in-After-clause-none
returns-in_err-next-in-After-clause-none c =
    let text = c.args.text.now in
    fault_passed c.from_residual-in_err-next-in-After.result c.in_err-next-in-After.field-0.0
    (Fails text (BeforePart text c.in-After.sign c.in-After.indent c.in-After.at) c.parts.self) _
    (λ f. block_missing c.args.least (is_shallow c.args.context) (line_starts text c.args.at) (rest text c.args.at)
    (part_fails text c.args.least c.args.at (is_shallow c.args.context) c.args.self.now.events c.parts.self
    c.parts.next c.parts.invariant.goes_on c.in-After.sign c.in-After.indent c.in-After.at c.in-After.is f))
    c.in_err-next-in-After.ensures.none (err_from_is_err_and c.from_residual-in_err-next-in-After.result
    c.from_residual-in_err-next-in-After.ensures.1)

pub pair-requires : goal.pair-requires
pair-requires c = record {
  placed = subst (λ (n : Next). IsPlaced c.args.text.now n) c.in-Pair.is
      c.parts.invariant.placed;
}

pub returns-in_err-next-in-Pair-clause-grown : goal.returns-in_err-next-in-Pair-clause-grown
returns-in_err-next-in-Pair-clause-grown c = grown_grown c.args.self.now.events c.parts.self.events
    c.pair.new.self.events c.parts.invariant.grown c.in_err-next-in-Pair.ensures.grown

pub returns-in_err-next-in-Pair-clause-missing : goal.returns-in_err-next-in-Pair-clause-missing
returns-in_err-next-in-Pair-clause-missing c =
    let text = c.args.text.now in
    fault_passed c.from_residual-in_err-next-in-Pair.result c.in_err-next-in-Pair.field-0.0
    (Fails text (BeforePair text c.in-Pair.indent c.in-Pair.at) c.parts.self) _
    (pair_fails text c.args.least c.args.at (is_shallow c.args.context) c.args.self.now.events c.parts.self
    c.parts.next c.parts.invariant.goes_on c.in-Pair.indent c.in-Pair.at c.in-Pair.is)
    c.in_err-next-in-Pair.ensures.none (err_from_is_err_and c.from_residual-in_err-next-in-Pair.result
    c.from_residual-in_err-next-in-Pair.ensures.1)

pub returns-in_err-next-in-Pair-clause-none : goal.returns-in_err-next-in-Pair-clause-none
returns-in_err-next-in-Pair-clause-none c =
    let text = c.args.text.now in
    fault_passed c.from_residual-in_err-next-in-Pair.result c.in_err-next-in-Pair.field-0.0
    (Fails text (BeforePair text c.in-Pair.indent c.in-Pair.at) c.parts.self) _
    (λ f. block_missing c.args.least (is_shallow c.args.context) (line_starts text c.args.at) (rest text c.args.at)
    (pair_fails text c.args.least c.args.at (is_shallow c.args.context) c.args.self.now.events c.parts.self
    c.parts.next c.parts.invariant.goes_on c.in-Pair.indent c.in-Pair.at c.in-Pair.is f))
    c.in_err-next-in-Pair.ensures.none (err_from_is_err_and c.from_residual-in_err-next-in-Pair.result
    c.from_residual-in_err-next-in-Pair.ensures.1)

pub unwind-requires : goal.unwind-requires
unwind-requires c = record {
  line = subst (λ (n : Next). IsPlaced c.args.text.now n) c.in-Line.is
      c.parts.invariant.placed;
}

pub returns-in_err-next-in-Line-clause-grown : goal.returns-in_err-next-in-Line-clause-grown
returns-in_err-next-in-Line-clause-grown c = grown_grown c.args.self.now.events c.parts.self.events
    c.unwind.new.self.events c.parts.invariant.grown c.in_err-next-in-Line.ensures.grown

pub returns-in-None-clause-reads : goal.returns-in-None-clause-reads
returns-in-None-clause-reads c =
    let text = c.args.text.now in
    let above : c.args.at ≤ c.in-Line.after.line.start =
    subst (λ (n : Next). c.args.at ≤ place_of n) c.in-Line.is c.parts.invariant.above in
    let placed : IsPlaced text (next.Line c.in-Line.after) =
    subst (λ (n : Next). IsPlaced text n) c.in-Line.is c.parts.invariant.placed in
    line_ends text c.args.least c.args.at (is_shallow c.args.context) c.args.self.now.events c.parts.self c.parts.next
    c.parts.invariant.goes_on c.in-Line.after c.unwind.new.self c.in_ok-next-in-Line.field-0 c.in-Line.is
    c.in_ok-next-in-Line.ensures.turns c.in-None.is above placed.line

pub returns-in-None-clause-only : goal.returns-in-None-clause-only
returns-in-None-clause-only c =
    let text = c.args.text.now in
    let above : c.args.at ≤ c.in-Line.after.line.start =
    subst (λ (n : Next). c.args.at ≤ place_of n) c.in-Line.is c.parts.invariant.above in
    let placed : IsPlaced text (next.Line c.in-Line.after) =
    subst (λ (n : Next). IsPlaced text n) c.in-Line.is c.parts.invariant.placed in
    each_node c.args.least (is_shallow c.args.context) text c.args.at c.args.self.now.events c.unwind.new.self.events
    c.in-Line.after.line.start
    (line_ends text c.args.least c.args.at (is_shallow c.args.context) c.args.self.now.events c.parts.self
    c.parts.next c.parts.invariant.goes_on c.in-Line.after c.unwind.new.self c.in_ok-next-in-Line.field-0
    c.in-Line.is
    c.in_ok-next-in-Line.ensures.turns c.in-None.is above placed.line)

pub returns-in-None-clause-grown : goal.returns-in-None-clause-grown
returns-in-None-clause-grown c = grown_grown c.args.self.now.events c.parts.self.events c.unwind.new.self.events
    c.parts.invariant.grown c.in_ok-next-in-Line.ensures.grown

pub parts-smaller-in_ok-next-in-After : goal.parts-smaller-in_ok-next-in-After
parts-smaller-in_ok-next-in-After c =
    subst (λ (k : ℕ). steps_left c.args.text.now c.in_ok-next-in-After.next < k)
    (sym (ap (steps_left c.args.text.now) c.in-After.is)) (c.in_ok-next-in-After.ensures.onward).less

pub parts-preserved-in_ok-next-in-After : goal.parts-preserved-in_ok-next-in-After
parts-preserved-in_ok-next-in-After c =
    let text = c.args.text.now in
    let here : c.args.at ≤ c.in-After.at = subst (λ (n : Next). c.args.at ≤ place_of n) c.in-After.is
    c.parts.invariant.above in
    let on : Onward text c.in-After.at (3 * (length text - c.in-After.at) + 2) c.in_ok-next-in-After.next =
    c.in_ok-next-in-After.ensures.onward in
    let above = on.above in
    record {
      goes_on = part_leads text c.args.least c.args.at (is_shallow c.args.context) c.args.self.now.events c.parts.self
          c.parts.next c.parts.invariant.goes_on c.in-After.sign c.in-After.indent c.in-After.at
          c.after_sign.new.self c.in_ok-next-in-After.next c.in-After.is c.in_ok-next-in-After.ensures.leads;
      above = omega arith;
      placed = on.placed;
      grown = grown_grown c.args.self.now.events c.parts.self.events c.after_sign.new.self.events
          c.parts.invariant.grown c.in_ok-next-in-After.ensures.grown;
      fits = c.parts.invariant.fits;
    }

pub parts-smaller-in_ok-next-in-Pair : goal.parts-smaller-in_ok-next-in-Pair
parts-smaller-in_ok-next-in-Pair c =
    subst (λ (k : ℕ). steps_left c.args.text.now c.in_ok-next-in-Pair.next < k)
    (sym (ap (steps_left c.args.text.now) c.in-Pair.is)) (c.in_ok-next-in-Pair.ensures.onward).less

pub parts-preserved-in_ok-next-in-Pair : goal.parts-preserved-in_ok-next-in-Pair
parts-preserved-in_ok-next-in-Pair c =
    let text = c.args.text.now in
    let here : c.args.at ≤ c.in-Pair.at = subst (λ (n : Next). c.args.at ≤ place_of n) c.in-Pair.is
    c.parts.invariant.above in
    let on : Onward text c.in-Pair.at (3 * (length text - c.in-Pair.at)) c.in_ok-next-in-Pair.next =
    c.in_ok-next-in-Pair.ensures.onward in
    let above = on.above in
    record {
      goes_on = pair_leads text c.args.least c.args.at (is_shallow c.args.context) c.args.self.now.events c.parts.self
          c.parts.next c.parts.invariant.goes_on c.in-Pair.indent c.in-Pair.at
          c.pair.new.self c.in_ok-next-in-Pair.next c.in-Pair.is c.in_ok-next-in-Pair.ensures.leads;
      above = omega arith;
      placed = on.placed;
      grown = grown_grown c.args.self.now.events c.parts.self.events c.pair.new.self.events c.parts.invariant.grown
          c.in_ok-next-in-Pair.ensures.grown;
      fits = c.parts.invariant.fits;
    }

pub parts-smaller : goal.parts-smaller
parts-smaller c =
    let text = c.args.text.now in
    let start = c.in-Line.after.line.start in
    let on : Onward text start (3 * (length text - start) + 1) c.in-Some.next =
    subst (λ (n : Option Next). MatchOption n (Unit {0}) (Onward text start (3 * (length text - start) + 1)))
    c.in-Some.is c.in_ok-next-in-Line.ensures.onward in
    subst (λ (k : ℕ). steps_left text c.in-Some.next < k) (sym (ap (steps_left text) c.in-Line.is)) on.less

pub parts-preserved : goal.parts-preserved
parts-preserved c =
    let text = c.args.text.now in
    let start = c.in-Line.after.line.start in
    let here : c.args.at ≤ start = subst (λ (n : Next). c.args.at ≤ place_of n) c.in-Line.is
    c.parts.invariant.above in
    let on : Onward text start (3 * (length text - start) + 1) c.in-Some.next =
    subst (λ (n : Option Next). MatchOption n (Unit {0}) (Onward text start (3 * (length text - start) + 1)))
    c.in-Some.is c.in_ok-next-in-Line.ensures.onward in
    let above = on.above in
    record {
      goes_on = line_leads text c.args.least c.args.at (is_shallow c.args.context) c.args.self.now.events c.parts.self
          c.parts.next c.parts.invariant.goes_on c.in-Line.after
          c.unwind.new.self c.in_ok-next-in-Line.field-0 c.in-Some.next c.in-Line.is
          c.in_ok-next-in-Line.ensures.turns c.in-Some.is;
      above = omega arith;
      placed = on.placed;
      grown = grown_grown c.args.self.now.events c.parts.self.events c.unwind.new.self.events c.parts.invariant.grown
          c.in_ok-next-in-Line.ensures.grown;
      fits = c.parts.invariant.fits;
    }
