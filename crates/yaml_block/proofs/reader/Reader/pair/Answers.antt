use Rattle.std.proofs.Common.{arith, length, refl, subst, sym, ℕ, ◌*◌, ◌-◌, ◌∙◌, ◌≡◌, ◌≤◌}
use Rattle.yaml_block.proofs.{Prelude.{block_key, faults_so, ok_so, FlowNodeRead}, KeysAndPairs.{key_fails, key_leads}}
use Rattle.yaml_block.proofs.{LineValueSteps.{first_line_key, pair_value}, PairLoop.{pairs_fail, pairs_first, pairs_lead}}
use Rattle.yaml_block.proofs.{SignsAndLines.{onward_from}, Stacks.{grown_grown, grown_same}, reader.Reader.pair.Goals.In_ok-next}
use Rattle.yaml_block.{proofs.reader.Reader.pair.Goals.In_ok-put_plain, specs.States.{BeforeColon, BeforePair, Fails, Grown, IsPlaced}}
use Rattle.yaml_block.specs.{States.{Leads, Onward, place_of}, declared.frame.Next.Next}
use Rattle.yaml_block.specs.declared.frame.Next.TheVariants as next
use Rattle.yaml_block.proofs.reader.Reader.pair.Goals as goal

pub pairs-init : goal.pairs-init
pairs-init c = record {
  leads = pairs_first c.args.text.now c.args.indent c.args.at c.args.self.now;
  placed = c.requires.placed;
  line = c.in-Some.ensures;
  above = omega arith;
  grown = grown_same c.args.self.now.events c.args.self.now.events refl;
}

pub line_value-requires : goal.line_value-requires
line_value-requires c =
    let line = c.pairs.invariant.line in
    let placed = c.pairs.invariant.placed in
    record { at = line.boundary; deep = omega (arith, placed.deep, line.above) }

-- the key is read
read : (c : In_ok-put_plain) → FlowNodeRead 0 block_key c.args.text.now c.pairs.at c.pairs.end
    c.pairs.self.events c.put_plain.new.self.events
read c = c.in_ok-put_plain.ensures.read 0 block_key
    (first_line_key c.args.text.now c.utf8.text c.pairs.at c.pairs.end (c.pairs.invariant.placed).boundary
    c.pairs.invariant.line)

-- the whole line leads on from its key
leads : (c : In_ok-next) → FlowNodeRead 0 block_key c.args.text.now c.pairs.at c.pairs.end c.pairs.self.events
    c.put_plain.new.self.events
    → Leads c.args.text.now (BeforePair c.args.text.now c.args.indent c.args.at) c.args.self.now c.line_pair.new.self
    c.in_ok-next.next
leads c key =
    let text = c.args.text.now in
    let k = c.pairs.indent in
    let at = c.pairs.at in
    let end = c.pairs.end in
    let mid = c.put_plain.new.self in
    let new = c.line_pair.new.self in
    let to = c.in_ok-next.next in
    let value = c.in-Some-line_value.ensures in
    let placed = c.pairs.invariant.placed in
    let line = c.pairs.invariant.line in
    pairs_lead text c.args.indent c.args.at c.args.self.now c.pairs.self k at c.pairs.invariant.leads new to
    (key_leads text c.utf8.text k at end c.pairs.self mid new to key c.in_ok-put_plain.ensures.collections
    (pair_value text c.utf8.text at k end c.in-Some-line_value.value.start mid new to placed.boundary
    line.boundary placed.deep line.above value.colon (sym c.at_most_chars.ensures ∙ c.if-not-at_most_chars.false)
    value.lead c.in_ok-next.ensures.leads))

-- and to a place further on
onward : (c : In_ok-next) → Onward c.args.text.now c.args.at (3 * (length c.args.text.now - c.args.at)) c.in_ok-next.next
onward c =
    let text = c.args.text.now in
    let at = c.args.at in
    let start = c.in-Some-line_value.value.start in
    let above = c.pairs.invariant.above in
    let key = (c.pairs.invariant.line).above in
    let lead = (c.in-Some-line_value.ensures.lead).above in
    onward_from text at start (3 * (length text - start)) (3 * (length text - at)) c.in_ok-next.next
    (omega (arith, above, key, lead)) (omega (arith, above, key, lead)) c.in_ok-next.ensures.onward

grown : (c : In_ok-next) → Grown c.args.self.now.events c.line_pair.new.self.events
grown c = grown_grown c.args.self.now.events c.pairs.self.events c.line_pair.new.self.events
    c.pairs.invariant.grown
    (grown_grown c.pairs.self.events c.put_plain.new.self.events c.line_pair.new.self.events
    c.in_ok-put_plain.ensures.grown c.in_ok-next.ensures.grown)

pub returns-in_default-next : goal.returns-in_default-next
unfolding leads read onward grown
returns-in_default-next c =
    let g = goal.at.returns-in_default-next c in
    record {
      onward = onward g.In_ok-next;
      leads = leads g.In_ok-next (read g.In_ok-put_plain);
      grown = grown g.In_ok-next;
      none = tt;
    }

pub pairs-preserved-in-Some-line_value : goal.pairs-preserved-in-Some-line_value
unfolding leads read onward grown
pairs-preserved-in-Some-line_value c =
    let text = c.args.text.now in
    let g = goal.at.pairs-preserved-in-Some-line_value c in
    let on = c.in_ok-next.ensures.onward in
    let above = subst (λ (n : Next). c.in-Some-line_value.value.start ≤ place_of n) c.in-Pair.is on.above in
    record {
      leads = subst (λ (n : Next). Leads text (BeforePair text c.args.indent c.args.at) c.args.self.now
          c.line_pair.new.self n) c.in-Pair.is (leads g.In_ok-next (read g.In_ok-put_plain));
      placed = subst (λ (n : Next). IsPlaced text n) c.in-Pair.is on.placed;
      line = c.in-Some-plain_first_line_end.ensures;
      above = omega (
        arith,
        above,
        c.pairs.invariant.above,
        (c.pairs.invariant.line).above,
        (c.in-Some-line_value.ensures.lead).above,
      );
      grown = grown g.In_ok-next;
    }

-- a step from the pair after the line is one from the first
further_leads : (c : In_ok-next) → (further same : ℕ) → c.in_ok-next.next ≡ next.Pair further same
    → FlowNodeRead 0 block_key c.args.text.now c.pairs.at c.pairs.end c.pairs.self.events c.put_plain.new.self.events
    → Leads c.args.text.now (BeforePair c.args.text.now c.args.indent c.args.at) c.args.self.now c.line_pair.new.self
    (next.Pair further same)
unfolding leads
further_leads c further same is key =
    subst (λ (n : Next). Leads c.args.text.now (BeforePair c.args.text.now c.args.indent c.args.at) c.args.self.now
    c.line_pair.new.self n) is (leads c key)

pub returns-in_default-plain_first_line_end-clause-leads : goal.returns-in_default-plain_first_line_end-clause-leads
unfolding read further_leads
returns-in_default-plain_first_line_end-clause-leads c =
    let text = c.args.text.now in
    let g = goal.at.returns-in_default-plain_first_line_end-clause-leads c in
    let last = c.any_pair-in_default-plain_first_line_end in
    ok_so last.result _ _
    (λ to l. pairs_lead text c.args.indent c.args.at c.args.self.now c.line_pair.new.self c.in-Pair.same
    c.in-Pair.further (further_leads g.In_ok-next c.in-Pair.further c.in-Pair.same c.in-Pair.is (read g.In_ok-put_plain))
    last.new.self to l) last.ensures.leads

pub returns-in_default-plain_first_line_end-clause-none : goal.returns-in_default-plain_first_line_end-clause-none
unfolding read further_leads
returns-in_default-plain_first_line_end-clause-none c =
    let text = c.args.text.now in
    let g = goal.at.returns-in_default-plain_first_line_end-clause-none c in
    let last = c.any_pair-in_default-plain_first_line_end in
    faults_so last.result (Fails text (BeforePair text c.in-Pair.same c.in-Pair.further) c.line_pair.new.self)
    (Fails text (BeforePair text c.args.indent c.args.at) c.args.self.now)
    (pairs_fail text c.args.indent c.args.at c.args.self.now c.line_pair.new.self c.in-Pair.same c.in-Pair.further
    (further_leads g.In_ok-next c.in-Pair.further c.in-Pair.same c.in-Pair.is (read g.In_ok-put_plain)))
    last.ensures.none

pub returns-then-not-at_most_chars-clause-leads : goal.returns-then-not-at_most_chars-clause-leads
unfolding read
returns-then-not-at_most_chars-clause-leads c =
    ok_so c.after_key.result _ _
    (λ to l. pairs_lead c.args.text.now c.args.indent c.args.at c.args.self.now c.pairs.self c.pairs.indent c.pairs.at
    c.pairs.invariant.leads c.after_key.new.self to
    (key_leads c.args.text.now c.utf8.text c.pairs.indent c.pairs.at c.pairs.end c.pairs.self c.put_plain.new.self
    c.after_key.new.self to (read (goal.at.returns-then-not-at_most_chars-clause-leads c).In_ok-put_plain)
    c.in_ok-put_plain.ensures.collections l)) c.after_key.ensures.leads

pub returns-then-not-at_most_chars-clause-none : goal.returns-then-not-at_most_chars-clause-none
unfolding read
returns-then-not-at_most_chars-clause-none c =
    let text = c.args.text.now in
    faults_so c.after_key.result
    (Fails text (BeforeColon text c.pairs.indent c.pairs.at c.pairs.end) c.put_plain.new.self)
    (Fails text (BeforePair text c.args.indent c.args.at) c.args.self.now)
    (λ f. pairs_fail text c.args.indent c.args.at c.args.self.now c.pairs.self c.pairs.indent c.pairs.at
    c.pairs.invariant.leads
    (key_fails text c.utf8.text c.pairs.indent c.pairs.at c.pairs.end c.pairs.self c.put_plain.new.self
    (read (goal.at.returns-then-not-at_most_chars-clause-none c).In_ok-put_plain)
    c.in_ok-put_plain.ensures.collections f))
    c.after_key.ensures.none

pub returns-in_default-nested_key-clause-leads : goal.returns-in_default-nested_key-clause-leads
unfolding read
returns-in_default-nested_key-clause-leads c =
    ok_so c.after_key-in_default-nested_key.result _ _
    (λ to l. pairs_lead c.args.text.now c.args.indent c.args.at c.args.self.now c.pairs.self c.pairs.indent c.pairs.at
    c.pairs.invariant.leads c.after_key-in_default-nested_key.new.self to
    (key_leads c.args.text.now c.utf8.text c.pairs.indent c.pairs.at c.pairs.end c.pairs.self c.put_plain.new.self
    c.after_key-in_default-nested_key.new.self to (read (goal.at.returns-in_default-nested_key-clause-leads c).In_ok-put_plain)
    c.in_ok-put_plain.ensures.collections l)) c.after_key-in_default-nested_key.ensures.leads

pub returns-in_default-nested_key-clause-none : goal.returns-in_default-nested_key-clause-none
unfolding read
returns-in_default-nested_key-clause-none c =
    let text = c.args.text.now in
    faults_so c.after_key-in_default-nested_key.result
    (Fails text (BeforeColon text c.pairs.indent c.pairs.at c.pairs.end) c.put_plain.new.self)
    (Fails text (BeforePair text c.args.indent c.args.at) c.args.self.now)
    (λ f. pairs_fail text c.args.indent c.args.at c.args.self.now c.pairs.self c.pairs.indent c.pairs.at
    c.pairs.invariant.leads
    (key_fails text c.utf8.text c.pairs.indent c.pairs.at c.pairs.end c.pairs.self c.put_plain.new.self
    (read (goal.at.returns-in_default-nested_key-clause-none c).In_ok-put_plain)
    c.in_ok-put_plain.ensures.collections f))
    c.after_key-in_default-nested_key.ensures.none

pub pairs-preserved : goal.pairs-preserved
unfolding read
pairs-preserved c =
    let text = c.args.text.now in
    let nested = c.in-Some-nested_key.nested in
    let n = c.in-Some-nested_key.ensures.nested in
    let new = c.open_nested.new.self in
    record {
      leads = pairs_lead text c.args.indent c.args.at c.args.self.now c.pairs.self c.pairs.indent c.pairs.at
          c.pairs.invariant.leads new _
          (key_leads text c.utf8.text c.pairs.indent c.pairs.at c.pairs.end c.pairs.self c.put_plain.new.self
          new _ (read (goal.at.pairs-preserved c).In_ok-put_plain) c.in_ok-put_plain.ensures.collections
          c.in_ok-open_nested.ensures.leads);
      placed = record {
        boundary = ((n.solid).spaces).boundary;
        deep = omega (arith, n.indent);
      };
      line = n.line;
      above = omega (
        arith,
        c.pairs.invariant.above,
        (c.pairs.invariant.line).above,
        (n.solid).above,
        ((n.solid).spaces).above,
      );
      grown = grown_grown c.args.self.now.events c.pairs.self.events new.events
          c.pairs.invariant.grown
          (grown_grown c.pairs.self.events c.put_plain.new.self.events new.events
          c.in_ok-put_plain.ensures.grown c.in_ok-open_nested.ensures.grown);
    }
