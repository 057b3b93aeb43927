use Rattle.std.{proofs.Common.{refl, sym, ◌∙◌, arith, length, ◌-◌, ◌*◌, ◌<◌, ◌≤◌}, specs.Prelude.None}
use Rattle.yaml_block.proofs.{Prelude.refuses, SignsAndLines.{Becomes, leads_so, fails_so, onward_so, nothing_at_end, prefix_rest_there}}
use Rattle.yaml_block.{proofs.{SignsAndLines.{prefix_leaf_there, prefix_nothing_there}, Stacks.grown_same}, specs.Lines.is_shallow}
use Rattle.yaml_block.specs.{declared.{frame.Leaf.Leaf, indentation.Indentation.Indentation}, States.{BeforeLeaf, BeforeNode}}
use Rattle.yaml_block.specs.States.{BeforeNodeLine}
use Rattle.yaml_block.proofs.reader.Reader.prefix.Goals as goal

pub returns-then-at-text-clause-none : goal.returns-then-at-text-clause-none
returns-then-at-text-clause-none c =
    refuses c.refusal.result _ (nothing_at_end c.args.text.now c.args.least c.args.at (is_shallow c.args.context)
    c.if-at-text.true c.args.self.now)

node_starts : goal.After-on_line → Indentation
node_starts c = record { least = c.args.least; margin = c.args.least; context = c.args.context }

-- the node is on a later line
node_here : (c : goal.After-on_line)
    → Becomes (BeforeNode c.args.text.now c.args.least (is_shallow c.args.context) c.args.at)
    (BeforeNodeLine c.args.text.now (node_starts c) c.solid_line-line.result.start)
unfolding node_starts
node_here c =
    prefix_rest_there c.args.text.now c.args.least c.args.at c.args.context c.utf8.text c.requires.at
    (sym c.line_starts.ensures ∙ c.if-line_starts.false) c.in-Some.next c.solid_line-line.result
    c.in-Some.ensures.found c.solid_line-line.ensures.found

pub returns-in-Some-clause-leads : goal.returns-in-Some-clause-leads
unfolding node_starts
returns-in-Some-clause-leads c =
    leads_so c.args.text.now c.on_line.result
    (BeforeNodeLine c.args.text.now (node_starts c) c.solid_line-line.result.start) _ c.args.self.now
    c.on_line.new.self (node_here c) c.on_line.ensures.leads

pub returns-in-Some-clause-none : goal.returns-in-Some-clause-none
unfolding node_starts
returns-in-Some-clause-none c =
    fails_so c.args.text.now c.on_line.result
    (BeforeNodeLine c.args.text.now (node_starts c) c.solid_line-line.result.start) _ c.args.self.now (node_here c)
    c.on_line.ensures.none

pub returns-then-first-at-clause-none : goal.returns-then-first-at-clause-none
returns-then-first-at-clause-none c =
    refuses c.no_white.result _
    (prefix_nothing_there c.args.text.now c.args.least c.args.at c.args.context c.utf8.text c.requires.at
    (sym c.line_starts.ensures ∙ c.if-line_starts.false) c.in_default.ensures.none
    c.white_end-first.result c.white_end-first.ensures.taken c.if-first-at.true c.args.self.now)

only_leaf : goal.After-leaf → Leaf
only_leaf c = record { at = c.white_end-first.result; least = c.args.least; pairs = None }

-- a leaf is on the line
leaf_here : (c : goal.After-leaf)
    → Becomes (BeforeNode c.args.text.now c.args.least (is_shallow c.args.context) c.args.at)
    (BeforeLeaf c.args.text.now (only_leaf c))
unfolding only_leaf
leaf_here c =
    let lead = c.white_end-first.result in
    let above : c.args.at ≤ lead = c.white_end-first.ensures.taken.above in
    let far : c.args.at < lead = omega (arith, above, c.if-first-at.false) in
    prefix_leaf_there c.args.text.now c.args.least c.args.at c.args.context c.utf8.text c.requires.at
    (sym c.line_starts.ensures ∙ c.if-line_starts.false) c.in_default.ensures.none lead
    c.white_end-first.ensures.taken far

pub returns-clause-leads : goal.returns-clause-leads
unfolding only_leaf
returns-clause-leads c =
    leads_so c.args.text.now c.leaf.result (BeforeLeaf c.args.text.now (only_leaf c)) _ c.args.self.now
    c.leaf.new.self (leaf_here c) c.leaf.ensures.leads

pub returns-clause-none : goal.returns-clause-none
unfolding only_leaf
returns-clause-none c =
    fails_so c.args.text.now c.leaf.result (BeforeLeaf c.args.text.now (only_leaf c)) _ c.args.self.now (leaf_here c)
    c.leaf.ensures.none

pub returns-in-Some-clause-onward : goal.returns-in-Some-clause-onward
returns-in-Some-clause-onward c =
    let text = c.args.text.now in
    let at = c.args.at in
    let start = c.solid_line-line.result.start in
    let next : at < c.in-Some.next = c.in-Some.ensures.found.above in
    let above : c.in-Some.next ≤ start = c.solid_line-line.ensures.found.above in
    onward_so text at start (3 * (length text - start)) (3 * (length text - at)) c.on_line.result
    (omega (arith, next, above)) (omega (arith, next, above)) c.on_line.ensures.onward

pub returns-clause-onward : goal.returns-clause-onward
returns-clause-onward c =
    let text = c.args.text.now in
    let at = c.args.at in
    let lead = c.white_end-first.result in
    let above : at ≤ lead = c.white_end-first.ensures.taken.above in
    onward_so text at lead (3 * (length text - lead)) (3 * (length text - at)) c.leaf.result above
    (omega (arith, above)) c.leaf.ensures.onward

pub returns-then-at-text-clause-grown : goal.returns-then-at-text-clause-grown
returns-then-at-text-clause-grown c = grown_same c.args.self.now.events c.args.self.now.events refl

pub returns-then-first-at-clause-grown : goal.returns-then-first-at-clause-grown
returns-then-first-at-clause-grown c = grown_same c.args.self.now.events c.args.self.now.events refl
