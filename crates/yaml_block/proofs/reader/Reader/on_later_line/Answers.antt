use Rattle.std.{proofs.Common.{◌≡◌, refl, sym, ◌∙◌, ap, arith, length, ◌+◌, ◌-◌, ◌*◌, ◌≤◌}, specs.Prelude.{true, false, suc}}
use Rattle.yaml_block.proofs.{Prelude.{err_from_is_err_and, rest, fault_passed, refuses, block_node_stops}, SignsAndLines.Becomes}
use Rattle.yaml_block.proofs.{SignsAndLines.{leads_so, fails_so, onward_so, left_out_key, left_out_value, node_there}, Stacks.grown_same}
use Rattle.yaml_block.specs.{Signs.is_shallow as is_shallow_after, States.{BeforePart, BeforeNodeLine, Fails}}
use Rattle.yaml_block.specs.declared.indentation.Indentation.{Indentation}
use Rattle.yaml_block.proofs.reader.Reader.on_later_line.Goals as goal

pub returns-then-waits_for_key-clause-none : goal.returns-then-waits_for_key-clause-none
returns-then-waits_for_key-clause-none c =
    let text = c.args.text.now in
    let line = c.args.line in
    let e : block_node_stops (suc c.args.indent) (is_shallow_after c.args.sign) (rest text line.start) ≡ true =
    ap (λ b. block_node_stops (suc c.args.indent) b (rest text line.start)) (sym c.context-context.ensures)
    ∙ (sym c.is_omitted.ensures ∙ c.if-is_omitted.true) in
    refuses c.refusal.result _
    (left_out_key text c.args.sign c.args.indent c.args.at c.utf8.text c.requires.placed c.requires.closes line
    c.requires.line e c.args.self.now (λ f fs s. c.if-waits_for_key.ensures f fs s))

pub returns-then-is_omitted-clause-leads : goal.returns-then-is_omitted-clause-leads
returns-then-is_omitted-clause-leads c =
    let text = c.args.text.now in
    let line = c.args.line in
    let e : block_node_stops (suc c.args.indent) (is_shallow_after c.args.sign) (rest text line.start) ≡ true =
    ap (λ b. block_node_stops (suc c.args.indent) b (rest text line.start)) (sym c.context-context.ensures)
    ∙ (sym c.is_omitted.ensures ∙ c.if-is_omitted.true) in
    let absent = c.in_ok-put_omitted.ensures.events in
    left_out_value text c.args.sign c.args.indent c.args.at c.utf8.text c.requires.placed c.requires.closes line
    c.requires.line e c.args.self.now (record c.put_omitted.new.self { end = c.args.at }) absent.event
    (λ f fs s. c.if-waits_for_key.ensures f fs s) c.in_ok-put_omitted.ensures.collections absent.is
    absent.means (absent.borrows text) refl

pub returns-then-waits_for_key-clause-grown : goal.returns-then-waits_for_key-clause-grown
returns-then-waits_for_key-clause-grown c = grown_same c.args.self.now.events c.args.self.now.events refl

pub returns-in_err-put_omitted-clause-none : goal.returns-in_err-put_omitted-clause-none
returns-in_err-put_omitted-clause-none c =
    let text = c.args.text.now in
    fault_passed c.from_residual.result c.in_err-put_omitted.field-0.0 ⊥
    (Fails text (BeforePart text c.args.sign c.args.indent c.args.at) c.args.self.now) (λ x. absurd x)
    (c.in_err-put_omitted.ensures).none (err_from_is_err_and c.from_residual.result c.from_residual.ensures.1)

pub returns-then-is_omitted-clause-onward : goal.returns-then-is_omitted-clause-onward
returns-then-is_omitted-clause-onward c =
    let line = c.requires.line in
    let above : c.args.at ≤ c.args.line.start = line.above in
    record {
      above = above;
      less = omega (arith, above);
      placed = record {
        line = record { boundary = line.boundary; spaces = line.spaces; starts = c.requires.starts };
        solid = line.solid;
      };
    }

node_starts : goal.After-on_line → Indentation
node_starts c = record {
  least = c.args.indent + 1;
  margin = c.args.indent + 1;
  context =
      c.context-context.result;
}

-- the node of the part is on the line
node_here : (c : goal.After-on_line)
    → Becomes (BeforePart c.args.text.now c.args.sign c.args.indent c.args.at)
    (BeforeNodeLine c.args.text.now (node_starts c) c.args.line.start)
unfolding node_starts
node_here c =
    let text = c.args.text.now in
    let line = c.args.line in
    let e : block_node_stops (suc c.args.indent) (is_shallow_after c.args.sign) (rest text line.start) ≡ false =
    ap (λ b. block_node_stops (suc c.args.indent) b (rest text line.start)) (sym c.context-context.ensures)
    ∙ (sym c.is_omitted.ensures ∙ c.if-is_omitted.false) in
    node_there text c.args.sign c.args.indent c.args.at c.utf8.text c.requires.placed c.requires.closes line
    c.requires.line (node_starts c) refl refl c.context-context.ensures e

pub returns-clause-leads : goal.returns-clause-leads
unfolding node_starts
returns-clause-leads c =
    leads_so c.args.text.now c.on_line.result (BeforeNodeLine c.args.text.now (node_starts c) c.args.line.start) _
    c.args.self.now c.on_line.new.self (node_here c) c.on_line.ensures.leads

pub returns-clause-none : goal.returns-clause-none
unfolding node_starts
returns-clause-none c =
    fails_so c.args.text.now c.on_line.result (BeforeNodeLine c.args.text.now (node_starts c) c.args.line.start) _
    c.args.self.now (node_here c) c.on_line.ensures.none

pub returns-clause-onward : goal.returns-clause-onward
returns-clause-onward c =
    let text = c.args.text.now in
    let at = c.args.at in
    let start = c.args.line.start in
    let above : at ≤ start = (c.requires.line).above in
    onward_so text at start (3 * (length text - start)) (3 * (length text - at) + 2) c.on_line.result above
    (omega (arith, above)) c.on_line.ensures.onward
