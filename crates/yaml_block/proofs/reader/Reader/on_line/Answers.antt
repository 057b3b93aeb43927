use Rattle.std.{proofs.Common.{◌≡◌, refl, sym, ◌∙◌, subst, arith, ◌+◌, ◌-◌, ◌*◌, ◌≤◌, length}, specs.Prelude.{Some, None, List, ℕ, Result}}
use Rattle.std.specs.Prelude.{IfOk}
use Rattle.yaml_block.proofs.{Prelude.{ScanFault, and_parts, faults_so, ok_so, refuses}, TextPlaces.{IsPastSign, past_sign}}
use Rattle.yaml_block.proofs.{Stacks.grown_same, SignsAndLines.{either, ok_opens, onward_so, Becomes, leads_so, fails_so, dash_onward}}
use Rattle.yaml_block.proofs.SignsAndLines.{line_sequence, line_refused, line_leaf_only, line_leaf_or_pairs}
use Rattle.yaml_block.specs.{declared.{frame.{Leaf.Leaf, Next.Next}, line_sign.Sign.TheVariants.Dash}, States.{BeforeLeaf, BeforeNodeLine}}
use Rattle.yaml_block.specs.States.{Fails, Onward, Leads}
use Rattle.yaml_block.specs.declared.frame.Next.TheVariants as next
use Rattle.yaml_block.proofs.reader.Reader.on_line.Goals as goal

pub returns-then-begins_sequence-clause-onward : goal.returns-then-begins_sequence-clause-onward
returns-then-begins_sequence-clause-onward c =
    let text = c.args.text.now in
    let line = c.args.line in
    let both = and_parts _ _ (sym c.begins_sequence.ensures ∙ c.if-begins_sequence.true) in
    let past : IsPastSign text line.first = past_sign text line.first 45 c.utf8.text
    ((c.requires.line).spaces).boundary (omega arith) refl both.0 in
    let above : line.start ≤ line.first = ((c.requires.line).spaces).above in
    let deep : line.first - line.start ≤ line.first = omega arith in
    ok_so c.open_items.result _ _
    (λ to e. subst (λ (n : Next). Onward text line.start (3 * (length text - line.start)) n) (sym e)
    (dash_onward text line.start line.first (line.first - line.start) above deep past))
    c.open_items.ensures.next

pub returns-then-begins_sequence-clause-leads : goal.returns-then-begins_sequence-clause-leads
returns-then-begins_sequence-clause-leads c =
    let text = c.args.text.now in
    let line = c.args.line in
    let both = and_parts _ _ (sym c.begins_sequence.ensures ∙ c.if-begins_sequence.true) in
    let past : IsPastSign text line.first = past_sign text line.first 45 c.utf8.text
    ((c.requires.line).spaces).boundary (omega arith) refl both.0 in
    ok_opens c.open_items.result (next.After (line.first + 1) (line.first - line.start) Dash) _ _
    (Leads text (BeforeNodeLine text c.args.node line.start) c.args.self.now c.open_items.new.self)
    c.open_items.ensures.next c.open_items.ensures.collections c.open_items.ensures.events
    (λ p e. line_sequence text c.args.node line c.utf8.text c.requires.line both.0 both.1 past c.args.self.now
    c.open_items.new.self p e)

pub returns-then-begins_sequence-clause-none : goal.returns-then-begins_sequence-clause-none
returns-then-begins_sequence-clause-none c =
    faults_so c.open_items.result ⊥
    (Fails c.args.text.now (BeforeNodeLine c.args.text.now c.args.node c.args.line.start) c.args.self.now)
    (λ x. absurd x) c.open_items.ensures.none

pub returns-then-spaces-node-clause-none : goal.returns-then-spaces-node-clause-none
returns-then-spaces-node-clause-none c =
    refuses c.too_shallow.result _
    (line_refused c.args.text.now c.args.node c.args.line c.utf8.text c.requires.line (sym c.begins_sequence.ensures
    ∙ c.if-begins_sequence.false) c.if-spaces-node.true c.args.self.now)

only_leaf : goal.After-leaf → Leaf
only_leaf c = record { at = c.white_end-first.result; least = c.args.node.least; pairs = None }

-- no pair may be on the line
leaf_here : (c : goal.After-leaf)
    → Becomes (BeforeNodeLine c.args.text.now c.args.node c.args.line.start) (BeforeLeaf c.args.text.now (only_leaf c))
unfolding only_leaf
leaf_here c =
    line_leaf_only c.args.text.now c.args.node c.args.line c.utf8.text c.requires.line (sym c.begins_sequence.ensures
    ∙ c.if-begins_sequence.false) c.white_end-first.result c.white_end-first.ensures.taken
    (either c.then-spaces-node-2.either) c.if-spaces-node.false

pub returns-then-spaces-node-2-clause-leads : goal.returns-then-spaces-node-2-clause-leads
unfolding only_leaf
returns-then-spaces-node-2-clause-leads c =
    leads_so c.args.text.now c.leaf.result (BeforeLeaf c.args.text.now (only_leaf c)) _ c.args.self.now
    c.leaf.new.self (leaf_here c) c.leaf.ensures.leads

pub returns-then-spaces-node-2-clause-none : goal.returns-then-spaces-node-2-clause-none
unfolding only_leaf
returns-then-spaces-node-2-clause-none c =
    fails_so c.args.text.now c.leaf.result (BeforeLeaf c.args.text.now (only_leaf c)) _ c.args.self.now (leaf_here c)
    c.leaf.ensures.none

leaf_or_pairs : goal.After-leaf-2 → Leaf
leaf_or_pairs c =
    let line = c.args.line in
    record { at = c.white_end-first.result; least = c.args.node.least; pairs = Some (line.first - line.start) }

-- a leaf or a mapping is on the line
pairs_here : (c : goal.After-leaf-2)
    → Becomes (BeforeNodeLine c.args.text.now c.args.node c.args.line.start)
    (BeforeLeaf c.args.text.now (leaf_or_pairs c))
unfolding leaf_or_pairs
pairs_here c =
    let line = c.args.line in
    let lead = c.white_end-first.result in
    let above : line.first ≤ lead = c.white_end-first.ensures.taken.above in
    let same : lead ≡ line.first = omega (arith, above, c.if-line-first.false) in
    line_leaf_or_pairs c.args.text.now c.args.node line c.utf8.text c.requires.line (sym c.begins_sequence.ensures
    ∙ c.if-begins_sequence.false) lead c.white_end-first.ensures.taken c.if-spaces-node-2.false same

pub returns-clause-leads : goal.returns-clause-leads
unfolding leaf_or_pairs
returns-clause-leads c =
    leads_so c.args.text.now c.leaf-2.result (BeforeLeaf c.args.text.now (leaf_or_pairs c)) _ c.args.self.now
    c.leaf-2.new.self (pairs_here c) c.leaf-2.ensures.leads

pub returns-clause-none : goal.returns-clause-none
unfolding leaf_or_pairs
returns-clause-none c =
    fails_so c.args.text.now c.leaf-2.result (BeforeLeaf c.args.text.now (leaf_or_pairs c)) _ c.args.self.now
    (pairs_here c) c.leaf-2.ensures.none

-- the next step after a leaf on the line is further on
leaf_onward : (text : List ℕ) (start first lead : ℕ) (r : Result Next ScanFault) → start ≤ first → first ≤ lead
    → IfOk r (Onward text lead (3 * (length text - lead)))
    → IfOk r (Onward text start (3 * (length text - start)))
leaf_onward text start first lead r l m h =
    onward_so text start lead (3 * (length text - lead)) (3 * (length text - start)) r (omega arith) (omega arith) h

pub returns-then-spaces-node-2-clause-onward : goal.returns-then-spaces-node-2-clause-onward
returns-then-spaces-node-2-clause-onward c =
    leaf_onward c.args.text.now c.args.line.start c.args.line.first c.white_end-first.result c.leaf.result
    ((c.requires.line).spaces).above c.white_end-first.ensures.taken.above c.leaf.ensures.onward

pub returns-clause-onward : goal.returns-clause-onward
returns-clause-onward c =
    leaf_onward c.args.text.now c.args.line.start c.args.line.first c.white_end-first.result c.leaf-2.result
    ((c.requires.line).spaces).above c.white_end-first.ensures.taken.above c.leaf-2.ensures.onward

pub returns-then-spaces-node-clause-grown : goal.returns-then-spaces-node-clause-grown
returns-then-spaces-node-clause-grown c = grown_same c.args.self.now.events c.args.self.now.events refl
